use Rattle.std.proofs.Common.{◌≡◌, ℕ, List, [], ◌∷◌, ◌++◌, codes, ap, sym, ◌∙◌, append_assoc}
use Rattle.std.specs.declared.alloc.Global.{Global}
use Rattle.std.specs.declared.vec.Vec.{Vec}
use Rattle.std.specs.Fmt.{decimal}
use Rattle.maskverif_cli.specs.Report.{why_word}
use Rattle.maskverif_cli.proofs.report.rejected.Goals as goal

joined : (digits word : List ℕ) → digits ++ 32 ∷ (word ++ 10 ∷ []) ≡ ((digits ++ 32 ∷ []) ++ word) ++ 10 ∷ []
joined digits word = sym (append_assoc (digits ++ 32 ∷ []) word (10 ∷ []) ∙ append_assoc digits (32 ∷ []) (word ++ 10 ∷ []))

pub returns : goal.returns
returns c =
    let said : List ℕ → List ℕ = λ word. codes "Rejected line " ++ (decimal c.args.line ++ 32 ∷ (word ++ 10 ∷ [])) in
    ap (λ (bytes : Vec ℕ Global). bytes.items) c.into_bytes.ensures.value
    ∙ c.in_ok-text.ensures.ok
    ∙ ap said c.why_word-why.ensures
    ∙ ap (λ (rest : List ℕ). codes "Rejected line " ++ rest) (joined (decimal c.args.line) (why_word c.args.why))
