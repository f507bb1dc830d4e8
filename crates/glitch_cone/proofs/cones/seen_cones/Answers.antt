use Rattle.std.proofs.Common.{Result, Ok, Err, IfOk, sym, subst, length}
use Rattle.circuit_types.specs.declared.probes.Model.TheVariants.{Value}
use Rattle.circuit_types.specs.declared.roles.Roles.{Roles}
use Rattle.circuit_types.specs.Probes.{seen_sources}
use Rattle.glitch_cone.specs.declared.cones.Cones.{Cones}
use Rattle.glitch_cone.specs.Cones.{AreOwn, AreProbed, CountsSeen}
use Rattle.glitch_cone.proofs.Seen.{value_seen}
use Rattle.glitch_cone.proofs.cones.seen_cones.Goals as goal

more_if_ok : {E : Type 0} (P Q : Cones → Type 0) (r : Result Cones E) → ((x : Cones) → P x → Q x) → IfOk r P → IfOk r Q
more_if_ok P Q (Ok x) f h = f x h
more_if_ok P Q (Err e) f h = tt

pub returns-in-Value : goal.returns-in-Value
returns-in-Value c =
    let circuit = c.args.circuit.now in
    let sources = c.args.sources.now in
    subst (λ m. IfOk c.own_cones.result (λ cones. (roles : Roles) → AreProbed roles circuit.nets sources → CountsSeen sources (seen_sources m roles circuit.nets) c.args.most cones)) (sym c.in-Value.is)
    (more_if_ok (AreOwn Value circuit.nets sources (length sources)) (λ cones. (roles : Roles) → AreProbed roles circuit.nets sources → CountsSeen sources (seen_sources Value roles circuit.nets) c.args.most cones)
    c.own_cones.result (λ cones own roles probed. value_seen circuit.nets roles sources c.args.most cones own) c.own_cones.ensures)
