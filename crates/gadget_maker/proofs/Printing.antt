-- The gadget is printable, and its text stands for it.
use Rattle.std.proofs.Common.{◌≡◌, ℕ, ◌≤◌, List, [], ◌∷◌, codes, refl, sym, subst, arith}
use Rattle.std.specs.Prelude.{IsSome}
use Rattle.circuit_types.specs.Top.{top_of}
use Rattle.circuit_types.specs.declared.tree.Tree.{Tree}
use Rattle.rtlil_tree.specs.Names.{HasItemsOnce}
use Rattle.rtlil_tree.specs.Text.{Stands}
use Rattle.rtlil_print.specs.Printable.{IsPrintable}
use Rattle.rtlil_print.specs.Printed.{printed}
use Rattle.rtlil_print.specs.PrintedLines.{with_printed_lines}
use Rattle.rtlil_print.proofs.Bounds.{stands_printable}
use Rattle.rtlil_print.proofs.RoundTrip.{reads}
use Rattle.rtlil_print.proofs.SameText.{same_text}
use Rattle.gadget_maker.specs.Gadget.{named_from, all_items, gadget_module, gadget}
use Rattle.gadget_maker.proofs.Names.{given_id}
use Rattle.gadget_maker.proofs.Distinct.{Distinct}
use Rattle.gadget_maker.proofs.Once.{wires_once, wire_names_stay, cells_once}
use Rattle.gadget_maker.proofs.Fitting.{named_printable, named_ports, all_fit, few_items}

-- the gadget, with lines still to be numbered
abbrev unnumbered : ℕ → ℕ → Tree
unnumbered seed d = record { modules = gadget_module seed d ∷ [] }

items_once : (seed d : ℕ) → d ≤ 16 → HasItemsOnce (named_from 0 (all_items seed d))
items_once seed d few =
    let most = few_items seed d few in record {
      wires = subst Distinct (sym (wire_names_stay 0 (all_items seed d))) (wires_once seed d few);
      cells = cells_once 0 (all_items seed d) (omega arith);
      ports = named_ports 0 (all_items seed d) (all_fit seed d few);
    }

unnumbered_printable : (seed d : ℕ) → d ≤ 16 → IsPrintable (unnumbered seed d)
unfolding gadget_module
unnumbered_printable seed d few =
    let most = few_items seed d few in record {
      top = refl;
      names = record { modules = refl; items = (items_once seed d few, tt) };
      modules = (
        record {
          name = given_id (codes "\\gadget") refl;
          attributes = (record { name = given_id (codes "\\top") refl; value = omega arith }, tt);
          items = named_printable 0 (all_items seed d) (omega arith) (all_fit seed d few);
        },
        tt,
      );
    }

pub stands : (seed d : ℕ) → d ≤ 16 → Stands (printed (gadget seed d)) (gadget seed d)
unfolding gadget
stands seed d few =
    subst (λ text. Stands text (with_printed_lines (unnumbered seed d))) (sym (same_text (unnumbered seed d)))
    (reads (unnumbered seed d) (unnumbered_printable seed d few))

pub has_top : (seed d : ℕ) → IsSome (top_of (gadget seed d))
unfolding gadget gadget_module
has_top seed d = refl

pub printable : (seed d : ℕ) → d ≤ 16 → IsPrintable (gadget seed d)
printable seed d few = stands_printable (printed (gadget seed d)) (gadget seed d) (stands seed d few) (has_top seed d)
