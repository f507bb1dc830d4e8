-- The text of a gadget is accepted.
use Rattle.std.proofs.Common.{ℕ, ◌≤◌, List, [], ◌∷◌, ◌++◌, length, sym, subst, arith}
use Rattle.circuit_types.specs.Causes.{level_causes}
use Rattle.circuit_types.specs.Due.{Cause, IsClear}
use Rattle.circuit_types.specs.Order.{order}
use Rattle.circuit_types.specs.Probes.{probe_list, probe_causes}
use Rattle.circuit_types.specs.declared.circuit.Circuit.{Circuit}
use Rattle.circuit_types.specs.declared.circuit.Timing.TheVariants.{Settled}
use Rattle.circuit_types.specs.declared.probes.Model.TheVariants.{Glitch}
use Rattle.circuit_types.specs.declared.tree.Item.{Item}
use Rattle.expr_table.specs.declared.instance.Notion.TheVariants.{Probing}
use Rattle.share_notes.specs.Causes.{role_causes}
use Rattle.share_notes.specs.Roles.{roles_of}
use Rattle.term_build.specs.TermInstance.{term_causes}
use Rattle.verify_question.specs.declared.question.Question.{Question}
use Rattle.accepted_netlist.specs.Netlist.{Netlist, IsNetlistOf, IsAcceptedAs, netlist_causes, seen_causes, counted_causes, tuple_causes}
use Rattle.rtlil_print.specs.Printed.{printed}
use Rattle.gadget_maker.specs.Gadget.{all_items, gadget}
use Rattle.gadget_maker.specs.Listed.{placed}
use Rattle.gadget_maker.proofs.Printing.{stands, has_top}
use Rattle.accepted_gadget.proofs.Spots.{Step, steps}
use Rattle.accepted_gadget.proofs.Cells.{Holds, none, wire, cell}
use Rattle.accepted_gadget.proofs.Building.{IsGadget, nets_of, accepted}
use Rattle.accepted_gadget.proofs.Shaped.{is_gadget, items_are}
use Rattle.accepted_gadget.proofs.Levelled.{cell_count, levels_clear}
use Rattle.accepted_gadget.proofs.Noted.{roles_are}
use Rattle.accepted_gadget.proofs.Clocked.{notes_clear}
use Rattle.accepted_gadget.proofs.Limits.{HasFewInputs, few_inputs, few_probes, probes_clear, terms_clear, few_tuples}
use Rattle.accepted_gadget.proofs.Texts.{short_text}

both_clear : (xs ys : List Cause) → IsClear xs → IsClear ys → IsClear (xs ++ ys)
both_clear [] ys h k = k
both_clear (x ∷ xs) ys h k = (h.0, both_clear xs ys h.1 k)

fewer_steps : (d : ℕ) (ss : List Step) (xs : List Item) → Holds d ss xs → length ss ≤ length xs
fewer_steps d ss xs none = omega arith
fewer_steps d ss xs (wire w ss1 xs1 h) = omega (arith, fewer_steps d ss xs1 h)
fewer_steps d ss xs (cell s c ss1 xs1 is h) = omega (arith, fewer_steps d ss1 xs1 h)

few_cells : (d : ℕ) (ss : List Step) (items : List Item) → IsGadget d ss items → length (nets_of items).cells ≤ 2053
few_cells d ss items is = omega (arith, cell_count d ss items is, fewer_steps d ss items is.holds, is.small)

tuples_clear : (n t : ℕ) → n ≤ 2206 → t ≤ 2 → IsClear (tuple_causes n t)
unfolding tuple_causes
tuples_clear n t few low = ((λ over. omega (arith, few_tuples n t few low, over)), tt)

abbrev gadget_items : ℕ → ℕ → List Item
gadget_items seed d = placed 3 0 (all_items seed d)

abbrev netlist : ℕ → ℕ → Netlist
netlist seed d = record { items = gadget_items seed d; nets = nets_of (gadget_items seed d) }

few_roles : (seed d : ℕ) → 2 ≤ d → d ≤ 16 → HasFewInputs (roles_of (gadget_items seed d))
few_roles seed d some few = subst HasFewInputs (sym (roles_are seed d few)) (few_inputs d some few)

-- what a trial asks
abbrev pub tried : ℕ → Question
tried t = record { notion = Probing; order = t; model = Glitch; timing = Settled }

all_clear : (seed d t : ℕ) → 2 ≤ d → d ≤ 16 → t ≤ 2 → IsClear (netlist_causes (tried t) (netlist seed d))
unfolding netlist_causes
all_clear seed d t some few low =
    let items = gadget_items seed d in
    let nets = nets_of items in
    let roles = roles_of items in
    let circuit : Circuit = record { nets = nets; order = order Settled nets; timing = Settled } in
    let is = is_gadget seed d some few in
    let inputs = few_roles seed d some few in
    let small = few_cells d (steps d) items is in
    let n = length (probe_list Glitch roles circuit) in
    both_clear (seen_causes (tried t) (netlist seed d)) (counted_causes (tried t) (netlist seed d))
    (both_clear (role_causes items nets) (level_causes roles Settled nets ++ probe_causes Glitch roles circuit) (notes_clear seed d some few)
    (both_clear (level_causes roles Settled nets) (probe_causes Glitch roles circuit) (levels_clear d (steps d) items is roles)
    (probes_clear roles nets inputs small)))
    (both_clear (tuple_causes n t) (term_causes Probing roles circuit) (tuples_clear n t (few_probes roles nets inputs small) low)
    (terms_clear roles nets inputs small))

is_netlist : (seed d : ℕ) → 2 ≤ d → d ≤ 16 → IsNetlistOf (printed (gadget seed d)) (netlist seed d)
is_netlist seed d some few =
    let built = accepted d (steps d) (gadget_items seed d) (is_gadget seed d some few) in record {
      tree = gadget seed d;
      tree_is = record { short = short_text seed d some few; stands = stands seed d few; top = has_top seed d };
      made = record { items = sym (items_are seed d); nets = built.nets; clear = built.clear };
    }

pub accepts : (seed d t : ℕ) → 2 ≤ d → d ≤ 16 → t ≤ 2 → (n : Netlist) × IsAcceptedAs (tried t) (printed (gadget seed d)) n
accepts seed d t some few low = (netlist seed d, record { netlist = is_netlist seed d some few; clear = all_clear seed d t some few low })
