use Rattle.std.proofs.Common.{◌≡◌, List, ◌≤◌, Result, Ok, Err, sym, subst}
use Rattle.std.specs.Prelude.{sum_by, IfOk}
use Rattle.circuit_types.specs.Items.{top_items, wires}
use Rattle.circuit_types.specs.InputBits.{FitsNets}
use Rattle.circuit_types.specs.Nets.{most_bits, AreNets}
use Rattle.circuit_types.specs.declared.nets.Nets.{Nets}
use Rattle.circuit_types.specs.declared.refusal.Stop.{Stop}
use Rattle.circuit_types.specs.declared.roles.Roles.{Roles}
use Rattle.circuit_types.specs.declared.tree.Item.{Item}
use Rattle.circuit_types.specs.declared.tree.Wire.{Wire}
use Rattle.share_notes.specs.Roles.{roles_of}
use Rattle.share_notes.proofs.Fitting.{roles_fit}
use Rattle.share_notes.proofs.FewShares.{few_wires}
use Rattle.share_notes.proofs.ports.roles.Goals as goal

pub roles_of-requires : goal.roles_of-requires
roles_of-requires c =
    subst (λ (items : List Item). sum_by (λ (w : Wire). w.width) (wires items) ≤ most_bits) (sym c.items_of.ensures)
    (few_wires (top_items c.args.tree.now) c.args.nets.now c.requires.nets c.requires.wired)

fits_so : (items : List Item) (nets : Nets) (r : Result Roles Stop) → AreNets items nets → IfOk r (λ x. x ≡ roles_of items) → IfOk r (λ x. FitsNets x nets)
fits_so items nets (Ok x) are e = subst (λ (y : Roles). FitsNets y nets) (sym e) (roles_fit items nets are)
fits_so items nets (Err e) are h = tt

pub returns-clause-fits : goal.returns-clause-fits
returns-clause-fits c =
    fits_so (top_items c.args.tree.now) c.args.nets.now c.roles_of.result c.requires.nets
    (subst (λ (items : List Item). IfOk c.roles_of.result (λ x. x ≡ roles_of items)) c.items_of.ensures c.roles_of.ensures.roles)
