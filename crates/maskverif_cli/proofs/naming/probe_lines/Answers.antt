use Rattle.std.proofs.Common.{◌≡◌, ℕ, ◌+◌, ◌<◌, List, [], ◌∷◌, ◌++◌, length, map, get_or, take, codes, sym, ap, ◌∙◌, append_assoc, append-nil}
use Rattle.std.proofs.lemmas.List.{get_or_default, take_more}
use Rattle.circuit_types.specs.declared.probes.Probe.{Probe}
use Rattle.circuit_types.specs.Probes.{probe_at}
use Rattle.maskverif_cli.specs.Report.{line, probe_lines}

-- the line of one more probe
one-more : (f : ℕ → List ℕ) (xs : List ℕ) (n : ℕ) → probe_lines (map f (xs ++ n ∷ [])) ≡ probe_lines (map f xs) ++ line (codes "probe " ++ f n)
one-more f [] n = append-nil (line (codes "probe " ++ f n))
one-more f (x ∷ xs) n =
    ap (λ t. line (codes "probe " ++ f x) ++ t) (one-more f xs n) ∙ sym (append_assoc (line (codes "probe " ++ f x)) (probe_lines (map f xs)) (line (codes "probe " ++ f n)))

next-lines : (f : ℕ → List ℕ) (xs : List ℕ) (i : ℕ) → i < length xs → probe_lines (map f (take (i + 1) xs)) ≡ probe_lines (map f (take i xs)) ++ line (codes "probe " ++ f (get_or xs i 0))
next-lines f xs i lt = ap (λ ys. probe_lines (map f ys)) (take_more xs i 0 lt) ∙ one-more f (take i xs) (get_or xs i 0)

-- a probe by its number
probe-is : (ps : List Probe) (k : ℕ) (p : Probe) → k < length ps → p ≡ get_or ps k p → p ≡ probe_at ps k
probe-is ps k p lt is = is ∙ get_or_default ps k p _ lt
