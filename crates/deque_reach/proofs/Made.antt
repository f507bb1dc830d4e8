-- New rows of lanes and new reaches.
use Rattle.std.proofs.Common.{◌≡◌, ℕ, zero, suc, ◌+◌, ◌-◌, List, [], ◌∷◌, ◌++◌, All, Some, length, map, replicate, get_or, take, drop, slice_get, Vec, sym, refl, ap, ◌∙◌, subst, arith, add-one}
use Rattle.std.specs.List.{range_with_len}
use lib.Seq.{take-append_seam}
use Rattle.std.specs.Global.{Global}
use Rattle.std.proofs.lemmas.List.Elements.{All-head, All-tail, All-weaker, All-push, All-get_or}
use Rattle.std.specs.Option.{option_map}
use Rattle.std.proofs.lemmas.List.{length-map, map-append}
use Rattle.std.proofs.lemmas.List.FromFn.{map-range_with_len_more}
use Rattle.std.proofs.lemmas.Option.{get_or_from_slice_get, slice_get_within, slice_get-map}
use Rattle.atomic_blocks.specs.Lent.{RowsId}
use Rattle.crossbeam_deque.specs.Handles.{view, worker_deque, worker_view, worker_flavor, stealer_deque}
use Rattle.deque_reach.specs.declared.pass_view.PassView.{PassView}
use Rattle.deque_reach.specs.declared.lane.Lane.{Lane}
use Rattle.deque_reach.specs.declared.reach.Reach.{Reach}
use Rattle.deque_reach.specs.Views.{ReachView}
use Rattle.deque_reach.specs.Reaches.{view_of}
use Rattle.deque_reach.specs.Lanes.{taken_by, KnowsSame, IsLaneTo}
use Rattle.deque_reach.specs.Rows.{Owner, Thief, GivesParts, IsNewLane, IsNewRow, EachGains, IsNewOwner}
use Rattle.deque_reach.specs.Rule.{all_parts}
use Rattle.deque_reach.specs.Steps.{fresh}
use Rattle.deque_reach.proofs.Reached.{AllZip_push}

-- each element gives the same
map-same : {A B : Type 0} (f : A → B) (x : B) (ls : List A) → All (λ l. f l ≡ x) ls → map f ls ≡ replicate (length ls) x
map-same f x [] all = refl
map-same f x (l ∷ ls) all = λ i. All-head (λ a. f a ≡ x) l ls all i ∷ map-same f x ls (All-tail (λ a. f a ≡ x) l ls all) i

module _ (probes order : ℕ) (ls : List Lane) (all : All (IsNewLane probes order) ls) where
  pub new_lanes_know : (v : PassView) → v.probes ≡ probes → v.order ≡ order → All (KnowsSame v) ls
  new_lanes_know v p o = All-weaker (IsNewLane probes order) (KnowsSame v) (λ l new. (ap (λ u. u.probes) new.view ∙ sym p, ap (λ u. u.order) new.view ∙ sym o)) ls all

  pub new_lanes_took : map taken_by ls ≡ replicate (length ls) []
  new_lanes_took = map-same taken_by [] ls (All-weaker (IsNewLane probes order) (λ l. taken_by l ≡ []) (λ l new. ap (λ u. u.taken) new.view) ls all)

  pub new_lanes_missed : map (λ l. l.misses) ls ≡ replicate (length ls) 0
  new_lanes_missed = map-same (λ (l : Lane). l.misses) 0 ls (All-weaker (IsNewLane probes order) (λ l. l.misses ≡ 0) (λ l new. new.misses) ls all)

pub map-composed : {A B C : Type 0} (g : B → C) (f : A → B) (xs : List A) → map (λ x. g (f x)) xs ≡ map g (map f xs)
map-composed g f [] = refl
map-composed g f (x ∷ xs) = ap (λ ys. g (f x) ∷ ys) (map-composed g f xs)

map-itself : {A : Type 0} (xs : List A) → map (λ x. x) xs ≡ xs
map-itself [] = refl
map-itself (x ∷ xs) = ap (λ ys. x ∷ ys) (map-itself xs)

-- what comes next of a list, of which the first n elements came
pub next_at : {X : Type 0} (xs : List X) (n : ℕ) (x : X) (ys : List X) → drop n xs ≡ x ∷ ys → (slice_get xs n ≡ Some x) × (ys ≡ drop (n + 1) xs)
next_at [] zero x ys e = absurd (cc e)
next_at [] (suc n) x ys e = absurd (cc e)
next_at (z ∷ zs) zero x ys e = let head : z ≡ x = cc in let tail : zs ≡ ys = cc in (ap Some head, sym tail)
next_at (z ∷ zs) (suc n) x ys e = rw add-one (let rest = next_at zs n x ys e in (rest.0, rest.1 ∙ ap (λ k. drop k zs) (add-one n)))

pub All-slice_get : {X : Type 0} (P : X → Type 0) (xs : List X) (n : ℕ) (x : X) → All P xs → slice_get xs n ≡ Some x → P x
All-slice_get P xs n x all e = subst P (get_or_from_slice_get xs n x x e) (All-get_or P xs n x (slice_get_within xs n x e) all)

-- the number of each reach is its place
pub numbers_of : (f : ℕ → ReachView) (n : ℕ) (reaches : List Reach) → ((k : ℕ) → (f k).number ≡ k) → map view_of reaches ≡ map f (range_with_len 0 n) → map (λ r. r.number) reaches ≡ range_with_len 0 n
numbers_of f n reaches is views =
    let number : ReachView → ℕ = λ v. v.number in
    let place : ℕ → ℕ = λ k. number (f k) in
    map-composed number view_of reaches ∙ ap (map number) views ∙ sym (map-composed number f (range_with_len 0 n)) ∙ ap (λ (g : ℕ → ℕ). map g (range_with_len 0 n)) (λ i k. is k i) ∙ map-itself (range_with_len 0 n)

-- each row with a new lane to one more deque
pub gained : (deques : List (RowsId × Global)) (probes order : ℕ) (owner : Owner) (old new : List (Vec Lane Global)) → (worker_view owner).probes ≡ probes → (worker_view owner).order ≡ order
    → length new ≡ length old → EachGains owner old new → All (λ row. IsNewRow deques probes order row.items) old → All (λ row. IsNewRow (deques ++ worker_deque owner ∷ []) probes order row.items) new
gained deques probes order owner old new p o count gains all k d low =
    let before = all k d (omega arith) in
    let g = gains k d (omega arith) in
    let is_new : IsNewLane probes order g.lane = subst (λ (v : ℕ × ℕ). IsNewLane v.0 v.1 g.lane) (λ i. (p i, o i)) g.is_new in
    subst (λ ls. IsNewRow (deques ++ worker_deque owner ∷ []) probes order ls) (sym g.items) (record {
      lanes = AllZip_push IsLaneTo deques (get_or old k d).items (worker_deque owner) g.lane before.lanes g.deque;
      new = All-push (IsNewLane probes order) (get_or old k d).items g.lane before.new is_new;
    })

-- there are as many deques as owners
pub owners_count : (owners : List Owner) (deques : List (RowsId × Global)) → map worker_deque owners ≡ deques → length deques ≡ length owners
owners_count owners deques is = sym (ap length is) ∙ length-map owners worker_deque

-- the deque of the owner at a place
pub deque_at : (owners : List Owner) (deques : List (RowsId × Global)) (n : ℕ) (owner : Owner) → map worker_deque owners ≡ deques → slice_get owners n ≡ Some owner → slice_get deques n ≡ Some (worker_deque owner)
deque_at owners deques n owner is at = ap (λ ds. slice_get ds n) (sym is) ∙ slice_get-map worker_deque owners n ∙ ap (option_map worker_deque) at

-- the views with one more reach
pub views_more : (f : ℕ → ReachView) (n : ℕ) (old new : List Reach) (r : Reach) → new ≡ old ++ r ∷ [] → map view_of old ≡ map f (range_with_len 0 n) → view_of r ≡ f n
    → map view_of new ≡ map f (range_with_len 0 (n + 1))
views_more f n old new r is before here =
    ap (map view_of) is ∙ map-append view_of old (r ∷ []) ∙ (λ i. before i ++ here i ∷ []) ∙ sym (map-range_with_len_more f 0 n n (omega arith))

pub new_owner : (workers probes order n : ℕ) (old new : Owner) → n ≡ workers → worker_flavor old ≡ 0 → worker_view old ≡ fresh probes order → GivesParts n old new → IsNewOwner workers probes order new
new_owner workers probes order n old new all fifo view gave = record {
  fifo = gave.flavor ∙ fifo;
  view =
      let less : PassView → PassView = λ v. record v { parts = v.parts - n } in
      let with : ℕ → PassView = λ k. record (fresh probes order) { parts = all_parts - k } in
      gave.view ∙ ap less view ∙ ap with all;
}

-- one more owner, and one more list of deques by their stealers
pub deques_more : (owners owners' : List Owner) (old new : Owner) → owners' ≡ owners ++ new ∷ [] → worker_deque new ≡ worker_deque old → map worker_deque owners' ≡ map worker_deque owners ++ worker_deque old ∷ []
deques_more owners owners' old new is same = ap (map worker_deque) is ∙ map-append worker_deque owners (new ∷ []) ∙ ap (λ d. map worker_deque owners ++ d ∷ []) same

pub thieves_more : (thieves thieves' : List Thief) (owners owners' : List Owner) (s : Thief) (new : Owner) → map stealer_deque thieves ≡ map worker_deque owners → thieves' ≡ thieves ++ s ∷ [] → owners' ≡ owners ++ new ∷ []
    → stealer_deque s ≡ worker_deque new → map stealer_deque thieves' ≡ map worker_deque owners'
thieves_more thieves thieves' owners owners' s new before is is' same =
    ap (map stealer_deque) is ∙ map-append stealer_deque thieves (s ∷ []) ∙ (λ i. before i ++ same i ∷ []) ∙ sym (map-append worker_deque owners (new ∷ [])) ∙ ap (map worker_deque) (sym is')

-- a slice of the whole list was written back
pub written_back : {X : Type 0} (P : X → Type 0) (n : ℕ) (new rest : List X) → n ≡ length new → All P new → All P (take n (new ++ rest))
written_back P n new rest is all = subst (All P) (sym (ap (λ k. take k (new ++ rest)) is ∙ take-append_seam new rest)) all
