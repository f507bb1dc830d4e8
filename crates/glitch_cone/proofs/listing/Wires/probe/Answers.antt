use Rattle.std.proofs.Common.{◌≡◌, ◌<◌, [], All, length, sym, ◌∙◌, subst, arith}
use Rattle.std.proofs.lemmas.List.{get_or_read}
use Rattle.glitch_cone.specs.Cones.{list_at}
use Rattle.glitch_cone.proofs.listing.Wires.probe.Goals as goal

pub sources_at-requires : goal.sources_at-requires
sources_at-requires c =
    let wires = c.args.self.now in
    let lt : c.args.number < length wires.cones.items = let e = c.requires.wires.one_list_each in let l = c.requires.within in omega arith in
    let is : c.as_slice.result.now ≡ list_at wires.cones.items c.args.number = c.as_slice.ensures ∙ get_or_read wires.cones.items c.args.number c.index-2.result.now lt c.index-2.ensures [] in
    subst (λ xs. All (λ k. k < length c.deref.result.now) xs) (sym is)
    (subst (λ ss. All (λ k. k < length ss) (list_at wires.cones.items c.args.number)) (sym c.deref.ensures.value) (c.requires.wires.lists c.args.number c.requires.within))
