use Rattle.std.proofs.Common.{◌≡◌, ℕ, List, [], ◌∷◌, length, sym, ap, ◌∙◌, subst, arith}
use Rattle.std.specs.declared.string.String.{String}
use Rattle.std.specs.declared.alloc.Global.{Global}
use Rattle.command_words.specs.declared.command.Command.{Command}
use Rattle.command_words.specs.Names.{texts}
use Rattle.command_words.specs.Commands.{Means, Request, request_of}
use Rattle.command_words.proofs.One.{no-words}
use Rattle.command_words.proofs.Uses.{if-some, if-none, is-none}
use Rattle.command_words.proofs.read.read_words.Goals as goal

none-means : (words : List (String Global)) → length words ≡ 0 → (request : Request) → Means (texts words) request → ⊥
none-means [] none = no-words
none-means (x ∷ xs) none = absurd (omega arith)

pub returns-in_err-name-clause-other : goal.returns-in_err-name-clause-other
returns-in_err-name-clause-other c =
    is-none c.from_residual.result ((request : Request) → Means (texts c.args.words.now) request → ⊥)
    (none-means c.args.words.now c.in_err-name.ensures.cases)

pub returns-clause-taken : goal.returns-clause-taken
returns-clause-taken c =
    let split : c.args.words.now ≡ c.in_ok-name.name.now ∷ c.in_ok-name.behind.now = c.in_ok-name.ensures.cases.0 in
    let same : c.as_str.result.now ∷ texts c.in_ok-name.behind.now ≡ texts c.args.words.now =
    ap (λ (w : List ℕ). w ∷ texts c.in_ok-name.behind.now) c.as_str.ensures.value ∙ sym (ap texts split) in
    if-some c.command_asked.result
    (λ (command : Command). Means (c.as_str.result.now ∷ texts c.in_ok-name.behind.now) (request_of command))
    (λ (command : Command). Means (texts c.args.words.now) (request_of command))
    (λ command means. subst (λ (w : List (List ℕ)). Means w (request_of command)) same means)
    c.command_asked.ensures.taken

pub returns-clause-other : goal.returns-clause-other
returns-clause-other c =
    let split : c.args.words.now ≡ c.in_ok-name.name.now ∷ c.in_ok-name.behind.now = c.in_ok-name.ensures.cases.0 in
    let same : c.as_str.result.now ∷ texts c.in_ok-name.behind.now ≡ texts c.args.words.now =
    ap (λ (w : List ℕ). w ∷ texts c.in_ok-name.behind.now) c.as_str.ensures.value ∙ sym (ap texts split) in
    if-none c.command_asked.result
    ((request : Request) → Means (c.as_str.result.now ∷ texts c.in_ok-name.behind.now) request → ⊥)
    ((request : Request) → Means (texts c.args.words.now) request → ⊥)
    (λ none request means. none request (subst (λ (w : List (List ℕ)). Means w request) (sym same) means))
    c.command_asked.ensures.other
