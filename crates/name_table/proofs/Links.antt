-- Names in slots: what is found, and what one more name changes.
use Rattle.std.proofs.Common.{◌≡◌, ℕ, zero, suc, ◌+◌, ◌-◌, ◌<◌, ◌≤◌, ◌^◌, ◌==◌, ◌&&◌, Bool, true, false, cond, List, [], ◌∷◌, ◌++◌, length, take, drop, get_or, set, replicate, reverse, Some, None, refl, sym, ap, ◌∙◌, subst, ⊎_elim, arith}
use Rattle.std.proofs.lemmas.Bool.{eqb-true, cases_eq, cases_Bool}
use Rattle.std.proofs.lemmas.List.{length-replicate, length-append, get_or_default, take_more, take_all, take-append-drop, reverse-append, length-reverse, length-take-le, length-set, get_or-set_same, get_or-set_other, get_or-replicate}
use Rattle.std.proofs.lemmas.Slice.Eq.{bytes_eq-Decides}
use Rattle.std.specs.Str.{bytes_eq}
use Rattle.name_table.specs.Names.{value_of}
use Rattle.name_table.specs.Digests.{digest_of, slot_of}
use Rattle.name_table.specs.Chains.{pairs, from_slot, are_linked, AreShelved}
use Rattle.name_table.specs.declared.slots.Entry.{Entry}

both : (a b : Bool) → a && b ≡ true → (a ≡ true) × (b ≡ true)
both true b e = (refl, e)
both false b e = cc

true_eqb : (a b : ℕ) → a ≡ b → (a == b) ≡ true
true_eqb a b e = grind arith

not_eqb : (a b : ℕ) → (a ≡ b → ⊥) → (a == b) ≡ false
not_eqb a b e = grind arith

-- a name has another slot's digest where it is another name
other_name : (n s d : ℕ) (name q : List ℕ) → d ≡ digest_of name → slot_of n (digest_of q) ≡ s → (slot_of n d == s) ≡ false → bytes_eq q name ≡ false
other_name n s d name q e h t =
    ⊎_elim (λ b. let same : q ≡ name = (bytes_eq-Decides q name).0 b in
    let slot : slot_of n d ≡ s = ap (slot_of n) (e ∙ ap digest_of (sym same)) ∙ h in
    let yes = true_eqb (slot_of n d) s slot in absurd cc) (λ b. b) (cases_Bool (bytes_eq q name))

module _ {V : Type 0} where
  -- the names numbered up to this number, the latest first
  abbrev pub latest : ℕ → List (Entry V) → List (Entry V)
  latest number entries = reverse (take number entries)

  latest_more : (es : List (Entry V)) (k : ℕ) (d : Entry V) → k < length es → latest (k + 1) es ≡ get_or es k d ∷ latest k es
  latest_more es k d h = ap reverse (take_more es k d h) ∙ reverse-append (take k es) (get_or es k d ∷ [])

  latest_length : (es : List (Entry V)) (k : ℕ) → k ≤ length es → length (latest k es) ≡ k
  latest_length es k h = length-reverse (take k es) ∙ length-take-le k es h

  latest_all : (es : List (Entry V)) → latest (length es) es ≡ reverse es
  latest_all es = ap reverse (take_all (length es) es (omega arith))

  -- the links of a list of names

  head_digest : (n : ℕ) (e : Entry V) (es : List (Entry V)) → are_linked n (e ∷ es) ≡ true → e.digest ≡ digest_of e.name.now
  unfolding are_linked
  head_digest n e es h =
      let p = both (e.digest == digest_of e.name.now && e.next == length (from_slot n (slot_of n e.digest) es)) (are_linked n es) h in
      eqb-true e.digest (digest_of e.name.now) (both (e.digest == digest_of e.name.now) (e.next == length (from_slot n (slot_of n e.digest) es)) p.0).0

  head_next : (n : ℕ) (e : Entry V) (es : List (Entry V)) → are_linked n (e ∷ es) ≡ true → e.next ≡ length (from_slot n (slot_of n e.digest) es)
  unfolding are_linked
  head_next n e es h =
      let p = both (e.digest == digest_of e.name.now && e.next == length (from_slot n (slot_of n e.digest) es)) (are_linked n es) h in
      eqb-true e.next (length (from_slot n (slot_of n e.digest) es)) (both (e.digest == digest_of e.name.now) (e.next == length (from_slot n (slot_of n e.digest) es)) p.0).1

  tail_linked : (n : ℕ) (e : Entry V) (es : List (Entry V)) → are_linked n (e ∷ es) ≡ true → are_linked n es ≡ true
  unfolding are_linked
  tail_linked n e es h = (both (e.digest == digest_of e.name.now && e.next == length (from_slot n (slot_of n e.digest) es)) (are_linked n es) h).1

  suffix_linked : (n : ℕ) (xs ys : List (Entry V)) → are_linked n (xs ++ ys) ≡ true → are_linked n ys ≡ true
  suffix_linked n [] ys h = h
  suffix_linked n (x ∷ xs) ys h = suffix_linked n xs ys (tail_linked n x (xs ++ ys) h)

  latest_linked : (n k : ℕ) (es : List (Entry V)) → are_linked n (reverse es) ≡ true → are_linked n (latest k es) ≡ true
  latest_linked n k es h =
      let whole = take-append-drop k es in
      suffix_linked n (reverse (drop k es)) (latest k es)
      (subst (λ v. are_linked n v ≡ true) (ap reverse (sym whole) ∙ reverse-append (take k es) (drop k es)) h)

  one_linked : (n : ℕ) (e : Entry V) (es : List (Entry V)) → e.digest ≡ digest_of e.name.now → e.next ≡ length (from_slot n (slot_of n e.digest) es)
      → are_linked n es ≡ true → are_linked n (e ∷ es) ≡ true
  unfolding are_linked
  one_linked n e es d x h =
      ap (λ b. (b && e.next == length (from_slot n (slot_of n e.digest) es)) && are_linked n es) (true_eqb e.digest (digest_of e.name.now) d)
      ∙ (ap (λ b. (true && b) && are_linked n es) (true_eqb e.next (length (from_slot n (slot_of n e.digest) es)) x) ∙ h)

  -- the names from the first one of a slot on

  from_here : (n s : ℕ) (e : Entry V) (es : List (Entry V)) (b : Bool) → (slot_of n e.digest == s) ≡ b → from_slot n s (e ∷ es) ≡ cond b (e ∷ es) (from_slot n s es)
  unfolding from_slot
  from_here n s e es b t = ap (λ v. cond v (e ∷ es) (from_slot n s es)) t

  from_none : (n s : ℕ) → from_slot {V = V} n s [] ≡ []
  unfolding from_slot
  from_none n s = refl

  -- what holds of the whole list and of what is left of its tail holds of what is left of it
  from_cases : (P : List (Entry V) → Type 0) (n s : ℕ) (e : Entry V) (es : List (Entry V)) → ((slot_of n e.digest == s) ≡ true → P (e ∷ es))
      → ((slot_of n e.digest == s) ≡ false → P (from_slot n s es)) → P (from_slot n s (e ∷ es))
  from_cases P n s e es here there =
      ⊎_elim (λ t. subst P (sym (from_here n s e es true t)) (here t)) (λ t. subst P (sym (from_here n s e es false t)) (there t)) (cases_Bool (slot_of n e.digest == s))

  from_shorter : (n s : ℕ) (es : List (Entry V)) → length (from_slot n s es) ≤ length es
  from_shorter n s [] = let e = ap length (from_none n s) in omega (arith, e)
  from_shorter n s (e ∷ es) = from_cases (λ v. length v ≤ length (e ∷ es)) n s e es (λ t. omega arith) (λ t. let h = from_shorter n s es in omega arith)

  from_again : (n s : ℕ) (es : List (Entry V)) → from_slot n s (from_slot n s es) ≡ from_slot n s es
  from_again n s [] = ap (from_slot n s) (from_none n s)
  from_again n s (e ∷ es) = from_cases (λ v. from_slot n s v ≡ v) n s e es (λ t. from_here n s e es true t) (λ t. from_again n s es)

  from_linked : (n s : ℕ) (es : List (Entry V)) → are_linked n es ≡ true → are_linked n (from_slot n s es) ≡ true
  from_linked n s [] h = subst (λ v. are_linked n v ≡ true) (sym (from_none n s)) h
  from_linked n s (e ∷ es) h = from_cases (λ v. are_linked n v ≡ true) n s e es (λ t. h) (λ t. from_linked n s es (tail_linked n e es h))

  head_slot : (n s : ℕ) (e : Entry V) (es : List (Entry V)) → from_slot n s (e ∷ es) ≡ e ∷ es → slot_of n e.digest ≡ s
  head_slot n s e es h =
      ⊎_elim (λ t. eqb-true (slot_of n e.digest) s t)
      (λ t. let short = from_shorter n s es in let long = ap length (sym (from_here n s e es false t) ∙ h) in absurd (omega (arith, short, long)))
      (cases_Bool (slot_of n e.digest == s))

  value_passed : (n s : ℕ) (q : List ℕ) (es : List (Entry V)) → slot_of n (digest_of q) ≡ s → are_linked n es ≡ true
      → value_of q (pairs es) ≡ value_of q (pairs (from_slot n s es))
  value_passed n s q [] e h = ap (λ v. value_of q (pairs v)) (sym (from_none n s))
  value_passed n s q (x ∷ es) e h =
      from_cases (λ v. value_of q (pairs (x ∷ es)) ≡ value_of q (pairs v)) n s x es (λ t. refl)
      (λ t. ap (λ b. cond b (Some x.value) (value_of q (pairs es))) (other_name n s x.digest x.name.now q (head_digest n x es h) e t)
      ∙ value_passed n s q es e (tail_linked n x es h))

  -- what is left of the names up to a number are the names up to another number
  from_latest : (n s : ℕ) (es : List (Entry V)) (d : Entry V) (k : ℕ) → k ≤ length es
      → from_slot n s (latest k es) ≡ latest (length (from_slot n s (latest k es))) es
  from_latest n s es d zero h = from_none n s ∙ ap (λ v. latest (length v) es) (sym (from_none n s))
  from_latest n s es d (suc k) h =
      let P = λ (v : List (Entry V)). v ≡ latest (length v) es in
      let lt : k < length es = omega arith in
      let one : k + 1 ≡ suc k = omega arith in
      let e = get_or es k d in
      let more : latest (suc k) es ≡ e ∷ latest k es = ap (λ i. latest i es) (sym one) ∙ latest_more es k d lt in
      let size : suc (length (latest k es)) ≡ suc k = ap (λ i. suc i) (latest_length es k (omega arith)) in
      subst (λ v. P (from_slot n s v)) (sym more)
      (from_cases P n s e (latest k es) (λ t. sym more ∙ ap (λ i. latest i es) (sym size)) (λ t. from_latest n s es d k (omega arith)))

  -- while a name is looked for: the names up to this number are left, the first of them in the name's slot
  pub record IsSought (n : ℕ) (q : List ℕ) (es : List (Entry V)) (number : ℕ) : Type 0 where
    pub within : number ≤ length es
    pub linked : are_linked n (latest number es) ≡ true
    pub here : from_slot n (slot_of n (digest_of q)) (latest number es) ≡ latest number es
    pub same : value_of q (pairs (reverse es)) ≡ value_of q (pairs (latest number es))

  sought : (n : ℕ) (q : List ℕ) (es : List (Entry V)) (d : Entry V) (m k : ℕ) → m ≤ length es → are_linked n (latest m es) ≡ true
      → value_of q (pairs (reverse es)) ≡ value_of q (pairs (latest m es)) → k ≡ length (from_slot n (slot_of n (digest_of q)) (latest m es)) → IsSought n q es k
  sought n q es d m k h l v e =
      let s = slot_of n (digest_of q) in
      let left : from_slot n s (latest m es) ≡ latest k es = from_latest n s es d m h ∙ ap (λ i. latest i es) (sym e) in
      let short = from_shorter n s (latest m es) in
      let size = latest_length es m h in
      record {
        within = omega (arith, short, size, e);
        linked = subst (λ x. are_linked n x ≡ true) left (from_linked n s (latest m es) l);
        here = ap (from_slot n s) (sym left) ∙ (from_again n s (latest m es) ∙ left);
        same = v ∙ (value_passed n s q (latest m es) refl l ∙ ap (λ x. value_of q (pairs x)) left);
      }

  none_sought : (n : ℕ) (q : List ℕ) (k : ℕ) → k ≡ length (from_slot {V = V} n (slot_of n (digest_of q)) []) → IsSought n q [] k
  unfolding are_linked
  none_sought n q k e =
      let z : k ≡ 0 = e ∙ ap length (from_none n (slot_of n (digest_of q))) in
      subst (IsSought n q []) (sym z) (record { within = omega arith; linked = refl; here = from_none n (slot_of n (digest_of q)); same = refl })

  all_sought : (n : ℕ) (q : List ℕ) (es : List (Entry V)) (k : ℕ) → are_linked n (reverse es) ≡ true
      → k ≡ length (from_slot n (slot_of n (digest_of q)) (reverse es)) → IsSought n q es k
  all_sought n q [] k l e = none_sought n q k e
  all_sought n q (x ∷ xs) k l e =
      let es = x ∷ xs in
      let all = latest_all es in
      sought n q es x (length es) k (omega arith) (subst (λ v. are_linked n v ≡ true) (sym all) l) (ap (λ v. value_of q (pairs v)) (sym all))
      (e ∙ ap (λ v. length (from_slot n (slot_of n (digest_of q)) v)) (sym all))

  pub start_sought : (heads : List ℕ) (q : List ℕ) (es : List (Entry V)) (s k : ℕ) → AreShelved heads es → s ≡ slot_of (length heads) (digest_of q) → s < length heads
      → k ≡ get_or heads s 0 → IsSought (length heads) q es k
  start_sought heads q es s k a e h g =
      let n = length heads in
      all_sought n q es k a.linked (g ∙ (a.first s h ∙ ap (λ i. length (from_slot n i (reverse es))) e))

  -- the entry at a number, and the names before it
  front : (es : List (Entry V)) (k : ℕ) (e : Entry V) → 0 < k → k ≤ length es → e ≡ get_or es (k - 1) e → latest k es ≡ e ∷ latest (k - 1) es
  front es k e p h is =
      let one : k - 1 + 1 ≡ k = omega arith in
      ap (λ i. latest i es) (sym one) ∙ (latest_more es (k - 1) e (omega arith) ∙ ap (λ x. x ∷ latest (k - 1) es) (sym is))

  pub entry_known : (n : ℕ) (q : List ℕ) (es : List (Entry V)) (k : ℕ) (e : Entry V) → 0 < k → e ≡ get_or es (k - 1) e → IsSought n q es k → e.digest ≡ digest_of e.name.now
  entry_known n q es k e p is a =
      head_digest n e (latest (k - 1) es) (subst (λ v. are_linked n v ≡ true) (front es k e p a.within is) a.linked)

  pub found : (n : ℕ) (q : List ℕ) (es : List (Entry V)) (k : ℕ) (e : Entry V) (b : Bool) → 0 < k → e ≡ get_or es (k - 1) e → IsSought n q es k → b ≡ bytes_eq q e.name.now → b ≡ true
      → Some e.value ≡ value_of q (pairs (reverse es))
  found n q es k e b p is a t h =
      sym (a.same ∙ (ap (λ v. value_of q (pairs v)) (front es k e p a.within is) ∙ ap (λ x. cond x (Some e.value) (value_of q (pairs (latest (k - 1) es)))) (sym t ∙ h)))

  pub next_sought : (n : ℕ) (q : List ℕ) (es : List (Entry V)) (k : ℕ) (e : Entry V) (b : Bool) → 0 < k → e ≡ get_or es (k - 1) e → IsSought n q es k → b ≡ bytes_eq q e.name.now → b ≡ false
      → IsSought n q es e.next × (e.next < k)
  next_sought n q es k e b p is a t h =
      let s = slot_of n (digest_of q) in
      let rest = latest (k - 1) es in
      let here = front es k e p a.within is in
      let linked = subst (λ v. are_linked n v ≡ true) here a.linked in
      let slot = head_slot n s e rest (subst (λ v. from_slot n s v ≡ v) here a.here) in
      let next : e.next ≡ length (from_slot n s rest) = head_next n e rest linked ∙ ap (λ i. length (from_slot n i rest)) slot in
      let short = from_shorter n s rest in
      let size = latest_length es (k - 1) (let w = a.within in omega (arith, w)) in
      let value : value_of q (pairs (reverse es)) ≡ value_of q (pairs rest)
      = a.same ∙ (ap (λ v. value_of q (pairs v)) here ∙ ap (λ x. cond x (Some e.value) (value_of q (pairs rest))) (sym t ∙ h)) in (
        sought n q es e (k - 1) e.next (let w = a.within in omega (arith, w)) (tail_linked n e rest linked) value next,
        omega (arith, next, short, size, p),
      )

  pub absent : (n : ℕ) (q : List ℕ) (es : List (Entry V)) (k : ℕ) → k ≡ 0 → IsSought n q es k → None ≡ value_of q (pairs (reverse es))
  absent n q es k z a = sym (a.same ∙ ap (λ i. value_of q (pairs (latest i es))) z)

  pub nothing : (heads : List ℕ) (q : List ℕ) (es : List (Entry V)) → AreShelved heads es → length heads ≡ 0 → None ≡ value_of q (pairs (reverse es))
  nothing heads q [] a z = refl
  nothing heads q (x ∷ xs) a z = let h = a.housed z in absurd (omega (arith, h))

  -- no names, and one name more

  none_shelved_in : (n : ℕ) → n < 2 ^ 32 → AreShelved {V = V} (replicate n 0) []
  unfolding are_linked
  none_shelved_in n h = let size = length-replicate {A = ℕ} n 0 in record {
    few = omega (arith, size);
    small = omega arith;
    housed = λ z. refl;
    linked = refl;
    first = λ s l. get_or-replicate n s 0 0 (omega (arith, size, l)) ∙ sym (ap length (from_none (length (replicate n 0)) s));
  }

  pub none_shelved : (heads : List ℕ) (es : List (Entry V)) (n : ℕ) → n < 2 ^ 32 → heads ≡ replicate n 0 → es ≡ [] → AreShelved heads es
  none_shelved heads es n h e x = subst (λ v. AreShelved v es) (sym e) (subst (λ v. AreShelved (replicate n 0) v) (sym x) (none_shelved_in n h))

  one_more : (heads : List ℕ) (es : List (Entry V)) (e : Entry V) (s k : ℕ) → AreShelved heads es → s ≡ slot_of (length heads) e.digest → s < length heads
      → e.digest ≡ digest_of e.name.now → e.next ≡ get_or heads s 0 → k ≡ length es + 1 → length es < 2 ^ 31 → AreShelved (set heads s k) (es ++ e ∷ [])
  one_more heads es e s k a is h d next size room =
      let n = length heads in
      let same : length (set heads s k) ≡ n = length-set heads s k in
      let back : reverse (es ++ e ∷ []) ≡ e ∷ reverse es = reverse-append es (e ∷ []) in
      let count = length-reverse es in
      let long : suc (length (reverse es)) ≡ k = omega (arith, count, size) in
      let links : are_linked n (e ∷ reverse es) ≡ true = one_linked n e (reverse es) d (next ∙ (a.first s h ∙ ap (λ i. length (from_slot n i (reverse es))) is)) a.linked in
      let firsts : (t : ℕ) → t < n → get_or (set heads s k) t 0 ≡ length (from_slot n t (e ∷ reverse es)) = λ t l.
      ⊎_elim (λ (q : t ≡ s). ap (λ i. get_or (set heads s k) i 0) q ∙ (get_or-set_same heads s k 0 h
      ∙ (sym long ∙ ap length (sym (from_here n t e (reverse es) true (true_eqb (slot_of n e.digest) t (sym is ∙ sym q)))))))
      (λ (q : t ≡ s → ⊥). get_or-set_other heads s t k 0 q
      ∙ (a.first t l ∙ ap length (sym (from_here n t e (reverse es) false (not_eqb (slot_of n e.digest) t (λ r. q (sym r ∙ sym is)))))))
      (cases_eq t s) in
      record {
        few = let f = a.few in omega (arith, same, f);
        small = let more = length-append es (e ∷ []) in omega (arith, more, room);
        housed = λ z. absurd (omega (arith, same, z, h));
        linked = subst (λ m. are_linked m (reverse (es ++ e ∷ [])) ≡ true) (sym same) (subst (λ v. are_linked n v ≡ true) (sym back) links);
        first = subst (λ m. (t : ℕ) → t < m → get_or (set heads s k) t 0 ≡ length (from_slot m t (reverse (es ++ e ∷ [])))) (sym same)
            (subst (λ v. (t : ℕ) → t < n → get_or (set heads s k) t 0 ≡ length (from_slot n t v)) (sym back) firsts);
      }

  pub one_shelved : (heads : List ℕ) (es after : List (Entry V)) (e : Entry V) (s k : ℕ) → AreShelved heads es → after ≡ es ++ e ∷ [] → s ≡ slot_of (length heads) e.digest → s < length heads
      → e.digest ≡ digest_of e.name.now → e.next ≡ get_or heads s e.next → k ≡ length after → length es < 2 ^ 31 → AreShelved (set heads s k) after
  one_shelved heads es after e s k a x is h d next size room =
      let more = length-append es (e ∷ []) in
      let long = ap length x in
      subst (λ v. AreShelved (set heads s k) v) (sym x) (one_more heads es e s k a is h d (next ∙ get_or_default heads s e.next 0 h) (omega (arith, size, long, more)) room)

  -- each name has its digest
  pub digest_at : (heads : List ℕ) (es items : List (Entry V)) (k : ℕ) (e : Entry V) → AreShelved heads items → es ≡ items → k < length es → e ≡ get_or es k e → e.digest ≡ digest_of e.name.now
  digest_at heads es items k e b x h is =
      let a = subst (λ v. AreShelved heads v) (sym x) b in
      let n = length heads in
      head_digest n e (latest k es)
      (subst (λ v. are_linked n v ≡ true) (latest_more es k e h ∙ ap (λ x. x ∷ latest k es) (sym is)) (latest_linked n (k + 1) es a.linked))
