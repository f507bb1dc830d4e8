-- Each form of line, taken apart and put together.
use Rattle.std.proofs.Common.{◌≡◌, ℕ, ◌+◌, ◌<◌, ◌≤◌, ◌^◌, Bool, true, false, List, [], ◌∷◌, ◌++◌, length, get_or, codes, decimal, refl, sym, ap, ◌∙◌, subst, arith, append_assoc}
use Rattle.std.specs.List.{AllByRecursion}
use Rattle.std.proofs.lemmas.Bool.{true≢false}
use Rattle.std.proofs.lemmas.List.{append_cancel_left}
use Rattle.rtlil_lex.specs.Bytes.{begins, is_digit}
use Rattle.expr_table.specs.declared.instance.Notion.{Notion}
use Rattle.expr_table.specs.declared.instance.Notion.TheVariants.{Probing, Ni, Sni}
use Rattle.circuit_types.specs.declared.probes.Model.{Model}
use Rattle.circuit_types.specs.declared.probes.Model.TheVariants.{Value, Glitch}
use Rattle.certificate.specs.declared.line.Line.{Line}
use Rattle.certificate.specs.declared.line.Line.TheVariants.{Title, Run, Counts, Hull, Cuts, End}
use Rattle.certificate.specs.Lines.{notion_word, model_word, numbers_text, line_text, IsSmall, IsHull}
use Rattle.certificate.specs.Parts.{NumberAfter, NoNumberAfter, HasNot, NotionAfter, ModelAfter, ListAfter, NoListAfter, LineFirst}
use Rattle.certificate.proofs.Numerals.{same_number, SameNumber}
use Rattle.certificate.proofs.NumberLists.{same_list, SameList}

-- ---- the words for notions and models, before anything

pub record SameNotion (a b : Notion) (rest more : List ℕ) : Type 0 where
  pub notion : a ≡ b
  pub left : rest ≡ more

-- two texts are one, so their first bytes are
first_bytes : (xs ys : List ℕ) (m n : ℕ) → xs ≡ ys → get_or xs 0 0 ≡ m → get_or ys 0 0 ≡ n → m ≡ n
first_bytes xs ys m n e p q = sym p ∙ ap (λ (s : List ℕ). get_or s 0 0) e ∙ q

pub same_notion : (a b : Notion) (rest more : List ℕ) → notion_word a ++ rest ≡ notion_word b ++ more → SameNotion a b rest more
same_notion Probing Probing rest more e = record { notion = refl; left = append_cancel_left (codes "probing") rest more e }
same_notion Ni Ni rest more e = record { notion = refl; left = append_cancel_left (codes "ni") rest more e }
same_notion Sni Sni rest more e = record { notion = refl; left = append_cancel_left (codes "sni") rest more e }
same_notion Probing Ni rest more e = absurd (omega (arith, first_bytes _ _ 112 110 e refl refl))
same_notion Probing Sni rest more e = absurd (omega (arith, first_bytes _ _ 112 115 e refl refl))
same_notion Ni Probing rest more e = absurd (omega (arith, first_bytes _ _ 110 112 e refl refl))
same_notion Ni Sni rest more e = absurd (omega (arith, first_bytes _ _ 110 115 e refl refl))
same_notion Sni Probing rest more e = absurd (omega (arith, first_bytes _ _ 115 112 e refl refl))
same_notion Sni Ni rest more e = absurd (omega (arith, first_bytes _ _ 115 110 e refl refl))

pub record SameModel (a b : Model) (rest more : List ℕ) : Type 0 where
  pub model : a ≡ b
  pub left : rest ≡ more

pub same_model : (a b : Model) (rest more : List ℕ) → model_word a ++ rest ≡ model_word b ++ more → SameModel a b rest more
same_model Value Value rest more e = record { model = refl; left = append_cancel_left (codes "value") rest more e }
same_model Glitch Glitch rest more e = record { model = refl; left = append_cancel_left (codes "glitch") rest more e }
same_model Value Glitch rest more e = absurd (omega (arith, first_bytes _ _ 118 103 e refl refl))
same_model Glitch Value rest more e = absurd (omega (arith, first_bytes _ _ 103 118 e refl refl))

pub same_notion_after : (word bytes : List ℕ) (a b : Notion) (rest more : List ℕ) → NotionAfter word bytes a rest → NotionAfter word bytes b more → SameNotion a b rest more
same_notion_after word bytes a b rest more h g = same_notion a b rest more (append_cancel_left word _ _ (sym h ∙ g))

pub same_model_after : (word bytes : List ℕ) (a b : Model) (rest more : List ℕ) → ModelAfter word bytes a rest → ModelAfter word bytes b more → SameModel a b rest more
same_model_after word bytes a b rest more h g = same_model a b rest more (append_cancel_left word _ _ (sym h ∙ g))

-- what stands behind the word is none of these
pub no_notion : (word bytes text : List ℕ) → bytes ≡ word ++ text → HasNot (codes "probing") text → HasNot (codes "ni") text → HasNot (codes "sni") text
    → (notion : Notion) (rest : List ℕ) → NotionAfter word bytes notion rest → ⊥
no_notion word bytes text cut probing ni sni = λ notion rest h. by_notion notion rest (append_cancel_left word _ _ (sym cut ∙ h))
  where
    by_notion : (notion : Notion) (rest : List ℕ) → text ≡ notion_word notion ++ rest → ⊥
    by_notion Probing rest e = probing rest e
    by_notion Ni rest e = ni rest e
    by_notion Sni rest e = sni rest e

pub no_model : (word bytes text : List ℕ) → bytes ≡ word ++ text → HasNot (codes "value") text → HasNot (codes "glitch") text
    → (model : Model) (rest : List ℕ) → ModelAfter word bytes model rest → ⊥
no_model word bytes text cut value glitch = λ model rest h. by_model model rest (append_cancel_left word _ _ (sym cut ∙ h))
  where
    by_model : (model : Model) (rest : List ℕ) → text ≡ model_word model ++ rest → ⊥
    by_model Value rest e = value rest e
    by_model Glitch rest e = glitch rest e

pub no_notion_word : (word bytes : List ℕ) → HasNot word bytes → (notion : Notion) (rest : List ℕ) → NotionAfter word bytes notion rest → ⊥
no_notion_word word bytes none = λ notion rest h. none _ h

pub no_model_word : (word bytes : List ℕ) → HasNot word bytes → (model : Model) (rest : List ℕ) → ModelAfter word bytes model rest → ⊥
no_model_word word bytes none = λ model rest h. none _ h

-- ---- the title and the last line

pub title_parts : (bytes : List ℕ) (version : ℕ) (more : List ℕ) → LineFirst bytes (Title version) more → NumberAfter (2 ^ 32) (codes "maskverif certificate ") bytes version (codes "\n" ++ more)
unfolding line_text
title_parts bytes version more h = record { text = h.text ∙ simp append_assoc; below = h.form; stops = refl }

pub title_made : (bytes : List ℕ) (version : ℕ) (rest more : List ℕ) → NumberAfter (2 ^ 32) (codes "maskverif certificate ") bytes version rest → rest ≡ codes "\n" ++ more → LineFirst bytes (Title version) more
unfolding line_text
title_made bytes version rest more h feed = record {
  form = h.below;
  text = h.text ∙ ap (λ s. codes "maskverif certificate " ++ (decimal version ++ s)) feed ∙ sym (simp append_assoc);
}

pub end_parts : (bytes : List ℕ) (number : ℕ) (more : List ℕ) → LineFirst bytes (End number) more → NumberAfter (2 ^ 64) (codes "end ") bytes number (codes "\n" ++ more)
unfolding line_text
end_parts bytes number more h = record { text = h.text ∙ simp append_assoc; below = h.form; stops = refl }

pub end_made : (bytes : List ℕ) (number : ℕ) (rest more : List ℕ) → NumberAfter (2 ^ 64) (codes "end ") bytes number rest → rest ≡ codes "\n" ++ more → LineFirst bytes (End number) more
unfolding line_text
end_made bytes number rest more h feed = record {
  form = h.below;
  text = h.text ∙ ap (λ s. codes "end " ++ (decimal number ++ s)) feed ∙ sym (simp append_assoc);
}

-- the line does not end behind its last number
no_feed_behind : (bound : ℕ) (word bytes : List ℕ) (n m : ℕ) (rest more : List ℕ) → bound ≤ 2 ^ 64
    → NumberAfter bound word bytes n rest → HasNot (codes "\n") rest → NumberAfter bound word bytes m (codes "\n" ++ more) → ⊥
no_feed_behind bound word bytes n m rest more high h none g = none more (same_number bound bound word bytes n m rest (codes "\n" ++ more) high high h g).left

pub no_title : (bytes : List ℕ) → NoNumberAfter (2 ^ 32) (codes "maskverif certificate ") bytes → (version : ℕ) (more : List ℕ) → LineFirst bytes (Title version) more → ⊥
no_title bytes none = λ version more h. none version _ (title_parts bytes version more h)

pub no_title_end : (bytes : List ℕ) (n : ℕ) (rest : List ℕ) → NumberAfter (2 ^ 32) (codes "maskverif certificate ") bytes n rest → HasNot (codes "\n") rest
    → (version : ℕ) (more : List ℕ) → LineFirst bytes (Title version) more → ⊥
no_title_end bytes n rest h none = λ version more g. no_feed_behind (2 ^ 32) _ bytes n version rest more (omega arith) h none (title_parts bytes version more g)

pub no_end : (bytes : List ℕ) → NoNumberAfter (2 ^ 64) (codes "end ") bytes → (number : ℕ) (more : List ℕ) → LineFirst bytes (End number) more → ⊥
no_end bytes none = λ number more h. none number _ (end_parts bytes number more h)

pub no_end_end : (bytes : List ℕ) (n : ℕ) (rest : List ℕ) → NumberAfter (2 ^ 64) (codes "end ") bytes n rest → HasNot (codes "\n") rest
    → (number : ℕ) (more : List ℕ) → LineFirst bytes (End number) more → ⊥
no_end_end bytes n rest h none = λ number more g. no_feed_behind (2 ^ 64) _ bytes n number rest more (omega arith) h none (end_parts bytes number more g)

-- ---- the run

pub record RunParts (bytes : List ℕ) (n : Notion) (o : ℕ) (m : Model) (more : List ℕ) : Type 0 where
  pub behind_notion : List ℕ
  pub behind_order : List ℕ
  pub notion : NotionAfter (codes "notion ") bytes n behind_notion
  pub order : NumberAfter (2 ^ 32) (codes " order ") behind_notion o behind_order
  pub model : ModelAfter (codes " model ") behind_order m (codes "\n" ++ more)

pub run_parts : (bytes : List ℕ) (notion : Notion) (order : ℕ) (model : Model) (more : List ℕ) → LineFirst bytes (Run notion order model) more → RunParts bytes notion order model more
unfolding line_text
run_parts bytes notion order model more h = record {
  behind_notion = codes " order " ++ (decimal order ++ (codes " model " ++ (model_word model ++ (codes "\n" ++ more))));
  behind_order = codes " model " ++ (model_word model ++ (codes "\n" ++ more));
  notion = h.text ∙ simp append_assoc;
  order = record { text = refl; below = h.form; stops = refl };
  model = refl;
}

pub run_made : (bytes : List ℕ) (notion : Notion) (order : ℕ) (model : Model) (r s t more : List ℕ)
    → NotionAfter (codes "notion ") bytes notion r → NumberAfter (2 ^ 32) (codes " order ") r order s → ModelAfter (codes " model ") s model t → t ≡ codes "\n" ++ more
    → LineFirst bytes (Run notion order model) more
unfolding line_text
run_made bytes notion order model r s t more first second third feed = record {
  form = second.below;
  text = first ∙ ap (λ x. codes "notion " ++ (notion_word notion ++ x)) (second.text ∙ ap (λ x. codes " order " ++ (decimal order ++ x)) (third ∙ ap (λ x. codes " model " ++ (model_word model ++ x)) feed))
      ∙ sym (simp append_assoc);
}

-- behind the notion and the order that were read, those of the line go on
order_at : (bytes : List ℕ) (n : Notion) (r : List ℕ) (notion : Notion) (order : ℕ) (model : Model) (more : List ℕ) → NotionAfter (codes "notion ") bytes n r
    → (h : RunParts bytes notion order model more) → NumberAfter (2 ^ 32) (codes " order ") r order h.behind_order
order_at bytes n r notion order model more first h =
    subst (λ (x : List ℕ). NumberAfter (2 ^ 32) (codes " order ") x order h.behind_order) (sym (same_notion_after (codes "notion ") bytes n notion r h.behind_notion first h.notion).left) h.order

model_at : (bytes : List ℕ) (n : Notion) (r : List ℕ) (o : ℕ) (s : List ℕ) (notion : Notion) (order : ℕ) (model : Model) (more : List ℕ) → NotionAfter (codes "notion ") bytes n r
    → NumberAfter (2 ^ 32) (codes " order ") r o s → RunParts bytes notion order model more → ModelAfter (codes " model ") s model (codes "\n" ++ more)
model_at bytes n r o s notion order model more first second h =
    let same = same_number (2 ^ 32) (2 ^ 32) (codes " order ") r o order s h.behind_order (omega arith) (omega arith) second (order_at bytes n r notion order model more first h) in
    same.left ∙ h.model

pub no_run : (bytes : List ℕ) → ((notion : Notion) (rest : List ℕ) → NotionAfter (codes "notion ") bytes notion rest → ⊥)
    → (notion : Notion) (order : ℕ) (model : Model) (more : List ℕ) → LineFirst bytes (Run notion order model) more → ⊥
no_run bytes none = λ notion order model more h. none notion _ (run_parts bytes notion order model more h).notion

pub no_run_order : (bytes : List ℕ) (n : Notion) (r : List ℕ) → NotionAfter (codes "notion ") bytes n r → NoNumberAfter (2 ^ 32) (codes " order ") r
    → (notion : Notion) (order : ℕ) (model : Model) (more : List ℕ) → LineFirst bytes (Run notion order model) more → ⊥
no_run_order bytes n r first none = λ notion order model more h.
    none order _ (order_at bytes n r notion order model more first (run_parts bytes notion order model more h))

pub no_run_model : (bytes : List ℕ) (n : Notion) (r : List ℕ) (o : ℕ) (s : List ℕ) → NotionAfter (codes "notion ") bytes n r → NumberAfter (2 ^ 32) (codes " order ") r o s
    → ((model : Model) (rest : List ℕ) → ModelAfter (codes " model ") s model rest → ⊥)
    → (notion : Notion) (order : ℕ) (model : Model) (more : List ℕ) → LineFirst bytes (Run notion order model) more → ⊥
no_run_model bytes n r o s first second none = λ notion order model more h.
    none model _ (model_at bytes n r o s notion order model more first second (run_parts bytes notion order model more h))

pub no_run_end : (bytes : List ℕ) (n : Notion) (r : List ℕ) (o : ℕ) (s : List ℕ) (m : Model) (t : List ℕ) → NotionAfter (codes "notion ") bytes n r
    → NumberAfter (2 ^ 32) (codes " order ") r o s → ModelAfter (codes " model ") s m t → HasNot (codes "\n") t
    → (notion : Notion) (order : ℕ) (model : Model) (more : List ℕ) → LineFirst bytes (Run notion order model) more → ⊥
no_run_end bytes n r o s m t first second third none = λ notion order model more h.
    none more (same_model_after (codes " model ") s m model t _ third (model_at bytes n r o s notion order model more first second (run_parts bytes notion order model more h))).left

pub record SameRun (n o : Notion) (p q : ℕ) (m l : Model) (rest more : List ℕ) : Type 0 where
  pub notion : n ≡ o
  pub order : p ≡ q
  pub model : m ≡ l
  pub left : codes "\n" ++ rest ≡ codes "\n" ++ more

pub same_run : (bytes : List ℕ) (n o : Notion) (p q : ℕ) (m l : Model) (rest more : List ℕ) → LineFirst bytes (Run n p m) rest → LineFirst bytes (Run o q l) more → SameRun n o p q m l rest more
same_run bytes n o p q m l rest more h g =
    let first = run_parts bytes n p m rest h in
    let second = run_parts bytes o q l more g in
    let models = same_model_after (codes " model ") first.behind_order m l _ _ first.model (model_at bytes n first.behind_notion p first.behind_order o q l more first.notion first.order second) in
    let orders = same_number (2 ^ 32) (2 ^ 32) (codes " order ") first.behind_notion p q first.behind_order second.behind_order (omega arith) (omega arith) first.order
    (order_at bytes n first.behind_notion o q l more first.notion second) in
    record {
      notion = (same_notion_after (codes "notion ") bytes n o first.behind_notion second.behind_notion first.notion second.notion).notion;
      order = orders.number;
      model = models.model;
      left = models.left;
    }

-- ---- the counts

pub record CountsParts (bytes : List ℕ) (p r t : ℕ) (more : List ℕ) : Type 0 where
  pub behind_probes : List ℕ
  pub behind_rows : List ℕ
  pub probes : NumberAfter (2 ^ 32) (codes "probes ") bytes p behind_probes
  pub rows : NumberAfter (2 ^ 32) (codes " rows ") behind_probes r behind_rows
  pub tuples : NumberAfter (2 ^ 64) (codes " tuples ") behind_rows t (codes "\n" ++ more)

pub counts_parts : (bytes : List ℕ) (probes rows tuples : ℕ) (more : List ℕ) → LineFirst bytes (Counts probes rows tuples) more → CountsParts bytes probes rows tuples more
unfolding line_text
counts_parts bytes probes rows tuples more h = record {
  behind_probes = codes " rows " ++ (decimal rows ++ (codes " tuples " ++ (decimal tuples ++ (codes "\n" ++ more))));
  behind_rows = codes " tuples " ++ (decimal tuples ++ (codes "\n" ++ more));
  probes = record { text = h.text ∙ simp append_assoc; below = h.form.0; stops = refl };
  rows = record { text = refl; below = h.form.1; stops = refl };
  tuples = record { text = refl; below = h.form.2; stops = refl };
}

pub counts_made : (bytes : List ℕ) (probes rows tuples : ℕ) (r s t more : List ℕ)
    → NumberAfter (2 ^ 32) (codes "probes ") bytes probes r → NumberAfter (2 ^ 32) (codes " rows ") r rows s → NumberAfter (2 ^ 64) (codes " tuples ") s tuples t → t ≡ codes "\n" ++ more
    → LineFirst bytes (Counts probes rows tuples) more
unfolding line_text
counts_made bytes probes rows tuples r s t more first second third feed = record {
  form = (first.below, second.below, third.below);
  text = first.text ∙ ap (λ x. codes "probes " ++ (decimal probes ++ x)) (second.text ∙ ap (λ x. codes " rows " ++ (decimal rows ++ x)) (third.text ∙ ap (λ x. codes " tuples " ++ (decimal tuples ++ x)) feed))
      ∙ sym (simp append_assoc);
}

-- behind the probes and the rows that were read, those of the line go on
rows_at : (bytes : List ℕ) (p : ℕ) (r : List ℕ) (probes rows tuples : ℕ) (more : List ℕ) → NumberAfter (2 ^ 32) (codes "probes ") bytes p r
    → (h : CountsParts bytes probes rows tuples more) → NumberAfter (2 ^ 32) (codes " rows ") r rows h.behind_rows
rows_at bytes p r probes rows tuples more first h =
    subst (λ (x : List ℕ). NumberAfter (2 ^ 32) (codes " rows ") x rows h.behind_rows)
    (sym (same_number (2 ^ 32) (2 ^ 32) (codes "probes ") bytes p probes r h.behind_probes (omega arith) (omega arith) first h.probes).left) h.rows

tuples_at : (bytes : List ℕ) (p : ℕ) (r : List ℕ) (q : ℕ) (s : List ℕ) (probes rows tuples : ℕ) (more : List ℕ) → NumberAfter (2 ^ 32) (codes "probes ") bytes p r
    → NumberAfter (2 ^ 32) (codes " rows ") r q s → CountsParts bytes probes rows tuples more → NumberAfter (2 ^ 64) (codes " tuples ") s tuples (codes "\n" ++ more)
tuples_at bytes p r q s probes rows tuples more first second h =
    subst (λ (x : List ℕ). NumberAfter (2 ^ 64) (codes " tuples ") x tuples (codes "\n" ++ more))
    (sym (same_number (2 ^ 32) (2 ^ 32) (codes " rows ") r q rows s h.behind_rows (omega arith) (omega arith) second (rows_at bytes p r probes rows tuples more first h)).left) h.tuples

pub no_counts : (bytes : List ℕ) → NoNumberAfter (2 ^ 32) (codes "probes ") bytes → (probes rows tuples : ℕ) (more : List ℕ) → LineFirst bytes (Counts probes rows tuples) more → ⊥
no_counts bytes none = λ probes rows tuples more h. none probes _ (counts_parts bytes probes rows tuples more h).probes

pub no_counts_rows : (bytes : List ℕ) (p : ℕ) (r : List ℕ) → NumberAfter (2 ^ 32) (codes "probes ") bytes p r → NoNumberAfter (2 ^ 32) (codes " rows ") r
    → (probes rows tuples : ℕ) (more : List ℕ) → LineFirst bytes (Counts probes rows tuples) more → ⊥
no_counts_rows bytes p r first none = λ probes rows tuples more h.
    none rows _ (rows_at bytes p r probes rows tuples more first (counts_parts bytes probes rows tuples more h))

pub no_counts_tuples : (bytes : List ℕ) (p : ℕ) (r : List ℕ) (q : ℕ) (s : List ℕ) → NumberAfter (2 ^ 32) (codes "probes ") bytes p r → NumberAfter (2 ^ 32) (codes " rows ") r q s
    → NoNumberAfter (2 ^ 64) (codes " tuples ") s → (probes rows tuples : ℕ) (more : List ℕ) → LineFirst bytes (Counts probes rows tuples) more → ⊥
no_counts_tuples bytes p r q s first second none = λ probes rows tuples more h.
    none tuples _ (tuples_at bytes p r q s probes rows tuples more first second (counts_parts bytes probes rows tuples more h))

pub no_counts_end : (bytes : List ℕ) (p : ℕ) (r : List ℕ) (q : ℕ) (s : List ℕ) (n : ℕ) (t : List ℕ) → NumberAfter (2 ^ 32) (codes "probes ") bytes p r → NumberAfter (2 ^ 32) (codes " rows ") r q s
    → NumberAfter (2 ^ 64) (codes " tuples ") s n t → HasNot (codes "\n") t → (probes rows tuples : ℕ) (more : List ℕ) → LineFirst bytes (Counts probes rows tuples) more → ⊥
no_counts_end bytes p r q s n t first second third none = λ probes rows tuples more h.
    no_feed_behind (2 ^ 64) (codes " tuples ") s n tuples t more (omega arith) third none
    (tuples_at bytes p r q s probes rows tuples more first second (counts_parts bytes probes rows tuples more h))

pub record SameCounts (p q r s t u : ℕ) (rest more : List ℕ) : Type 0 where
  pub probes : p ≡ q
  pub rows : r ≡ s
  pub tuples : t ≡ u
  pub left : codes "\n" ++ rest ≡ codes "\n" ++ more

pub same_counts : (bytes : List ℕ) (p q r s t u : ℕ) (rest more : List ℕ) → LineFirst bytes (Counts p r t) rest → LineFirst bytes (Counts q s u) more → SameCounts p q r s t u rest more
same_counts bytes p q r s t u rest more h g =
    let first = counts_parts bytes p r t rest h in
    let second = counts_parts bytes q s u more g in
    let probes = same_number (2 ^ 32) (2 ^ 32) (codes "probes ") bytes p q first.behind_probes second.behind_probes (omega arith) (omega arith) first.probes second.probes in
    let rows = same_number (2 ^ 32) (2 ^ 32) (codes " rows ") first.behind_probes r s first.behind_rows second.behind_rows (omega arith) (omega arith) first.rows
    (rows_at bytes p first.behind_probes q s u more first.probes second) in
    let tuples = same_number (2 ^ 64) (2 ^ 64) (codes " tuples ") first.behind_rows t u _ _ (omega arith) (omega arith) first.tuples
    (tuples_at bytes p first.behind_probes r first.behind_rows q s u more first.probes first.rows second) in
    record { probes = probes.number; rows = rows.number; tuples = tuples.number; left = tuples.left }

-- ---- hulls and cuts

pub hull_parts : (bytes members more : List ℕ) → LineFirst bytes (Hull members) more → ListAfter (codes "hull") bytes members more
unfolding line_text
hull_parts bytes members more h = record { text = h.text ∙ simp append_assoc; small = h.form.1 }

pub hull_made : (bytes members more : List ℕ) → ListAfter (codes "hull") bytes members more → IsHull members → LineFirst bytes (Hull members) more
unfolding line_text
hull_made bytes members more h hull = record { form = (hull, h.small); text = h.text ∙ sym (simp append_assoc) }

pub cuts_parts : (bytes rows more : List ℕ) → LineFirst bytes (Cuts rows) more → ListAfter (codes "cuts") bytes rows more
unfolding line_text
cuts_parts bytes rows more h = record { text = h.text ∙ simp append_assoc; small = h.form }

pub cuts_made : (bytes rows more : List ℕ) → ListAfter (codes "cuts") bytes rows more → LineFirst bytes (Cuts rows) more
unfolding line_text
cuts_made bytes rows more h = record { form = h.small; text = h.text ∙ sym (simp append_assoc) }

pub no_hull : (bytes : List ℕ) → NoListAfter (codes "hull") bytes → (members rest : List ℕ) → LineFirst bytes (Hull members) rest → ⊥
no_hull bytes none = λ members rest h. none members rest (hull_parts bytes members rest h)

-- the numbers that were read are no hull, by the test that says so
pub no_hull_text : (bytes members shown rest : List ℕ) (test : Bool) → ListAfter (codes "hull") bytes members rest → shown ≡ members → (test ≡ true → IsHull shown) × (IsHull shown → test ≡ true)
    → test ≡ false → (others more : List ℕ) → LineFirst bytes (Hull others) more → ⊥
no_hull_text bytes members shown rest test h same tests fails = λ others more g.
    let list : SameList members others rest more = same_list (codes "hull") bytes members rest others more h (hull_parts bytes others more g) in
    true≢false (sym (tests.1 (subst IsHull (sym (same ∙ list.numbers)) (hull_of bytes others more g))) ∙ fails)
  where
    hull_of : (bytes others more : List ℕ) → LineFirst bytes (Hull others) more → IsHull others
    hull_of bytes others more g = g.form.0

pub no_cuts : (bytes : List ℕ) → NoListAfter (codes "cuts") bytes → (rows rest : List ℕ) → LineFirst bytes (Cuts rows) rest → ⊥
no_cuts bytes none = λ rows rest h. none rows rest (cuts_parts bytes rows rest h)
