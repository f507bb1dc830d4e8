-- What is told before and after, from one state to the next.
use Rattle.std.proofs.Common.{◌≡◌, Option, None, Some, IfSome, sym, subst}
use Rattle.mv_files.specs.Told.{WhereTold}

module _ {S : Type 0} where
  -- two steps make one
  pub told_then : (First Second Both : S → S → Type 0) → ((x y z : S) → First x y → Second y z → Both x z) → (a b c : Option S) → WhereTold First a b → WhereTold Second b c → WhereTold Both a c
  told_then First Second Both join None None None f s = tt
  told_then First Second Both join None None (Some z) f s = absurd s
  told_then First Second Both join None (Some y) c f s = absurd f
  told_then First Second Both join (Some x) None c f s = absurd f
  told_then First Second Both join (Some x) (Some y) None f s = absurd s
  told_then First Second Both join (Some x) (Some y) (Some z) f s = join x y z f s

  -- a weaker relation
  pub told_weaker : (Strong Weak : S → S → Type 0) → ((x y : S) → Strong x y → Weak x y) → (a b : Option S) → WhereTold Strong a b → WhereTold Weak a b
  told_weaker Strong Weak weaken None None h = tt
  told_weaker Strong Weak weaken None (Some y) h = absurd h
  told_weaker Strong Weak weaken (Some x) None h = absurd h
  told_weaker Strong Weak weaken (Some x) (Some y) h = weaken x y h

  -- a fact about the first state
  pub told_first : (Relates : S → S → Type 0) (Fact : S → Type 0) → ((x y : S) → Relates x y → Fact x) → (a b : Option S) → WhereTold Relates a b → IfSome a Fact
  told_first Relates Fact show None None h = tt
  told_first Relates Fact show None (Some y) h = tt
  told_first Relates Fact show (Some x) None h = absurd h
  told_first Relates Fact show (Some x) (Some y) h = show x y h

  -- the same state again
  pub told_same : (Relates : S → S → Type 0) → ((x : S) → Relates x x) → (a b : Option S) → b ≡ a → WhereTold Relates a b
  told_same Relates here None b e = subst (λ (c : Option S). WhereTold Relates None c) (sym e) tt
  told_same Relates here (Some x) b e = subst (λ (c : Option S). WhereTold Relates (Some x) c) (sym e) (here x)

  -- the second state is that of another place
  pub told_moved : (Relates : S → S → Type 0) → (a b c : Option S) → c ≡ b → WhereTold Relates a b → WhereTold Relates a c
  told_moved Relates a b c e h = subst (λ (d : Option S). WhereTold Relates a d) (sym e) h
