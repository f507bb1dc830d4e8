-- What is printed of a tree stands for the tree with the numbers of its lines.
use Rattle.std.proofs.Common.{ℕ, List, [], subst}
use Rattle.circuit_types.specs.declared.tree.Tree.{Tree}
use Rattle.rtlil_tree.specs.Lines.{AreLines}
use Rattle.rtlil_tree.specs.Text.{Stands}
use Rattle.rtlil_print.specs.Printable.{IsPrintable}
use Rattle.rtlil_print.specs.Printed.{printed}
use Rattle.rtlil_print.specs.PrintedLines.{modules_at, with_printed_lines}
use Rattle.rtlil_print.proofs.Placing.{numbered, are_lines}
use Rattle.rtlil_print.proofs.PrintedItems.{modules_statements, are_of_modules, modules_written}
use Rattle.rtlil_print.proofs.PrintedNames.{names_once}

pub reads : (t : Tree) → IsPrintable t → Stands (printed t) (with_printed_lines t)
unfolding printed
reads t h =
    let w = modules_written 1 t.modules h.modules in
    let lines = are_lines w.rows (w.laid []) w.each in
    record {
      lines = numbered w.rows 1;
      end_line = lines.0;
      are_lines = subst (λ (b : List ℕ). AreLines b (numbered w.rows 1) lines.0) w.spelled lines.1;
      text = record {
        statements = modules_statements (modules_at 1 t.modules);
        of_tree = are_of_modules (modules_at 1 t.modules);
        written = w.written;
        names = names_once t h.names;
      };
    }
