-- The gadgets that the program makes, and what it asks of them.
use Rattle.std.specs.Prelude.{ℕ, ◌-◌, min, List}
use Rattle.circuit_types.specs.declared.circuit.Timing.TheVariants.{Settled}
use Rattle.circuit_types.specs.declared.probes.Model.TheVariants.{Glitch}
use Rattle.expr_table.specs.declared.instance.Notion.TheVariants.{Probing}
use Rattle.rtlil_print.specs.Printed.{printed}
use Rattle.gadget_maker.specs.Gadget.{gadget}
use Rattle.command_words.specs.declared.command.Gadget.{Gadget}
use Rattle.verify_question.specs.declared.question.Question.{Question}

-- the text of a gadget's netlist
unfoldable pub gadget_text : Gadget → List ℕ
gadget_text asked = printed (gadget asked.seed asked.shares)

-- A gadget is to withstand one probe fewer than it has shares; a trial asks for two at most.
abbrev pub trial_order : ℕ → ℕ
trial_order shares = min (shares - 1) 2

-- what a trial asks of a gadget of so many shares
abbrev pub trial_question : ℕ → Question
trial_question shares = record { notion = Probing; order = trial_order shares; model = Glitch; timing = Settled }
