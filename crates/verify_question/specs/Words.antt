-- The words for what is asked.
use Rattle.std.specs.Prelude.{ℕ, List, codes}
use Rattle.circuit_types.specs.declared.probes.Model.{Model}
use Rattle.circuit_types.specs.declared.probes.Model.TheVariants.{Value, Glitch}
use Rattle.expr_table.specs.declared.instance.Notion.{Notion}
use Rattle.expr_table.specs.declared.instance.Notion.TheVariants.{Probing, Ni, Sni}

-- the word for a notion
abbrev pub notion_word : Notion → List ℕ
notion_word Probing = codes "probing"
notion_word Ni = codes "ni"
notion_word Sni = codes "sni"

-- the word for a model
abbrev pub model_word : Model → List ℕ
model_word Value = codes "value"
model_word Glitch = codes "glitch"
