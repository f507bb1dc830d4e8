use Rattle.std.proofs.Common.{◌≡◌, ℕ, ◌++◌, [], ◌∷◌, List, Some, length, false, sym, ap, ◌∙◌, subst, arith}
use Rattle.std.specs.BTreeMap as tree
use Rattle.std.specs.Ordering.{nat_cmp, ordering_then}
use Rattle.std.specs.Cmp.Lexicographic.{slice_cmp}
use Rattle.std.specs.List.{list_any}
use Rattle.circuit_types.specs.declared.roles.Secret.{Secret}
use Rattle.share_notes.specs.Known.{KnowsPlaces}
use Rattle.share_notes.specs.Shares.{is_same_secret}
use Rattle.share_notes.proofs.Places.{found_is, stays, grows, one_known}
use Rattle.share_notes.proofs.secrets.Secrets.add.Goals as goal

pub returns-then-contains_key-clause-list : goal.returns-then-contains_key-clause-list
returns-then-contains_key-clause-list c = λ before e.
    stays before c.args.self.now.list.items (record { name = c.args.name.now; bit = c.args.bit })
    (sym (found_is c.args.self.now.list.items c.args.self.now.places (record { name = c.args.name.now; bit = c.args.bit }) _ c.requires.known c.contains_key.ensures) ∙ c.if-contains_key.true) e

pub returns-clause-known : goal.returns-clause-known
returns-clause-known c =
    let t : Secret = record { name = c.args.name.now; bit = c.args.bit } in
    let list = c.args.self.now.list.items in
    let none : list_any (is_same_secret t) list ≡ false = sym (found_is list c.args.self.now.places t _ c.requires.known c.contains_key.ensures) ∙ c.if-contains_key.false in
    let pushed : c.push.new.self.items ≡ list ++ t ∷ [] =
    c.in_ok-push.ensures.items ∙ ap (λ (n : List ℕ). list ++ record { name = n; bit = c.args.bit } ∷ []) (c.from_vec.ensures ∙ c.in_ok-from_slice.ensures.items) in
    let place : c.len-place.result ≡ length list = omega (arith, c.len-place.ensures, c.args.self.now.list.ok.0) in
    subst (λ (ss : List Secret). KnowsPlaces ss c.insert.new.self) (sym pushed)
    (one_known list t c.args.self.now.places c.insert.new.self
    (subst (λ (k : ℕ). tree.UpdatesBy (λ x y. ordering_then (slice_cmp nat_cmp x.0.now y.0.now) (nat_cmp x.1 y.1)) (λ k. ordering_then (slice_cmp nat_cmp t.name k.0.now) (nat_cmp t.bit k.1)) c.args.self.now.places c.insert.new.self (Some k)) place c.in_ok-insert.ensures.updates)
    none c.requires.known)

pub returns-clause-list : goal.returns-clause-list
returns-clause-list c = λ before e.
    let t : Secret = record { name = c.args.name.now; bit = c.args.bit } in
    let list = c.args.self.now.list.items in
    let none : list_any (is_same_secret t) list ≡ false = sym (found_is list c.args.self.now.places t _ c.requires.known c.contains_key.ensures) ∙ c.if-contains_key.false in
    let pushed : c.push.new.self.items ≡ list ++ t ∷ [] =
    c.in_ok-push.ensures.items ∙ ap (λ (n : List ℕ). list ++ record { name = n; bit = c.args.bit } ∷ []) (c.from_vec.ensures ∙ c.in_ok-from_slice.ensures.items) in
    pushed ∙ grows before list t none e
