use Rattle.std.proofs.Common.{◌++◌, [], ◌∷◌, ◌∙◌, ◌≡◌, Some, sym, ap, take, append_assoc, arith}
use Rattle.std.specs.List.{slice_get}
use Rattle.bit_rows.specs.Sets.{members}
use Rattle.probe_family.proofs.Ascending.{next_after, take_one_more, take_no_more}
use Rattle.probe_family.proofs.family.add_least.Goals as goal

-- one more of the least members was added
pub loop-taken-preserved : goal.loop-taken-preserved
loop-taken-preserved c =
    let found : slice_get (members c.args.part.now.set) c.loop-taken._taken ≡ Some c.in-Some.p = sym c.loop-taken.invariant.next ∙ c.in-Some.is in
    record {
      taken = c.push.ensures.items
          ∙ (ap (λ l. l ++ c.in-Some.p ∷ []) c.loop-taken.invariant.taken
          ∙ (append_assoc c.args.tuple.now.items (take c.loop-taken._taken (members c.args.part.now.set)) (c.in-Some.p ∷ [])
          ∙ ap (λ l. c.args.tuple.now.items ++ l) (sym (take_one_more (members c.args.part.now.set) c.loop-taken._taken c.in-Some.p found))));
      next = c.next-next.ensures ∙ next_after c.args.part.now.set c.loop-taken._taken c.in-Some.p found;
    }

-- no member is left
pub returns-in_default : goal.returns-in_default
returns-in_default c =
    c.loop-taken.invariant.taken
    ∙ ap (λ l. c.args.tuple.now.items ++ l) (take_no_more (members c.args.part.now.set) c.loop-taken._taken c.args.part.now.take (sym c.loop-taken.invariant.next ∙ c.in_default.is) (omega arith))
