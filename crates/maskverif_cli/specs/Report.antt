-- The texts that the program writes.
use Rattle.std.specs.Prelude.{ℕ, List, [], ◌∷◌, ◌++◌, codes, Option, Some, None}
use Rattle.std.specs.List.{flat_map}
use Rattle.std.specs.Fmt.{decimal}
use Rattle.circuit_types.specs.declared.refusal.Refusal.{Refusal}
use Rattle.circuit_types.specs.declared.refusal.Refusal.TheVariants.{BadToken, BadForm, NoTop, UnsupportedStatement, UnsupportedCell, Hierarchy, NoWire, BadSlice, WidthMismatch, PortMissing, TwoDrivers, Undriven, UnknownBit, Limit, NoteForm, NoteMissing, ShareGap, ShareDouble, ClockUse, GateLoop, RegisterLoop, ResetNotHeld, EnableNotHeld, ShareMixed, CoarseForm, NoModule, Recursion, InstancePort, NameTwice}
use Rattle.circuit_types.specs.declared.refusal.Which.{Which}
use Rattle.circuit_types.specs.declared.refusal.Which.TheVariants as which
use Rattle.verify_question.specs.declared.question.Question.{Question}
use Rattle.certificate.specs.declared.fault.Why.{Why}
use Rattle.certificate.specs.declared.fault.Why.TheVariants.{Form, Header, Extra, Open, Count, Hull, Cuts, Bound}
use Rattle.verify_question.specs.Words.{notion_word, model_word}

-- a text and a line feed
abbrev pub line : List ℕ → List ℕ
line text = text ++ 10 ∷ []

-- the second to the fourth line of a report on a netlist
abbrev pub counts_of : Question → ℕ → ℕ → List ℕ
counts_of asked probes tuples =
    line (codes "notion " ++ notion_word asked.notion ++ codes " order " ++ decimal asked.order ++ codes " model " ++ model_word asked.model)
    ++ line (codes "probes " ++ decimal probes)
    ++ line (codes "tuples " ++ decimal tuples)

-- the report where each tuple is provable, with the number of families of the proof tree
abbrev pub secure_report : Question → ℕ → ℕ → ℕ → List ℕ
secure_report asked probes tuples families =
    line (codes "Secure") ++ counts_of asked probes tuples ++ line (codes "families " ++ decimal families)

-- a line for each of these names of probes
abbrev pub probe_lines : List (List ℕ) → List ℕ
probe_lines names = flat_map (λ name. line (codes "probe " ++ name)) names

-- the report on an unproved tuple: its rank, and the names of its probes
abbrev pub unproved_report : Question → ℕ → ℕ → ℕ → List (List ℕ) → List ℕ
unproved_report asked probes tuples rank names =
    line (codes "Unproved")
    ++ counts_of asked probes tuples
    ++ line (codes "rank " ++ decimal rank)
    ++ probe_lines names

-- the report on a certificate that is accepted, with the number of its families
abbrev pub accepted_report : ℕ → List ℕ
accepted_report families = line (codes "Accepted") ++ line (codes "families " ++ decimal families)

-- what is wrong with a line of a certificate, by its name
abbrev pub why_word : Why → List ℕ
why_word Form = codes "Form"
why_word Header = codes "Header"
why_word Extra = codes "Extra"
why_word Open = codes "Open"
why_word Count = codes "Count"
why_word Hull = codes "Hull"
why_word Cuts = codes "Cuts"
why_word Bound = codes "Bound"

-- the report on a certificate that is not accepted: the first line with which something is wrong, and what that is
abbrev pub rejected_report : ℕ → Why → List ℕ
rejected_report number why = line (codes "Rejected line " ++ decimal number ++ codes " " ++ why_word why)

-- what is too much, by its name
abbrev pub limit_words : Which → List ℕ
limit_words which.FileBytes = codes "14 Limit FileBytes"
limit_words which.NetBits = codes "14 Limit NetBits"
limit_words which.Cells = codes "14 Limit Cells"
limit_words which.SignalWidth = codes "14 Limit SignalWidth"
limit_words which.Probes = codes "14 Limit Probes"
limit_words which.Seen = codes "14 Limit Seen"
limit_words which.Tuples = codes "14 Limit Tuples"
limit_words which.Terms = codes "14 Limit Terms"
limit_words which.CertificateBytes = codes "14 Limit CertificateBytes"
limit_words which.Flat = codes "14 Limit Flat"

-- the number and the name of a refusal
abbrev pub refusal_words : Refusal → List ℕ
refusal_words (BadToken l) = codes "1 BadToken"
refusal_words (BadForm l) = codes "2 BadForm"
refusal_words NoTop = codes "3 NoTop"
refusal_words (UnsupportedStatement l) = codes "4 UnsupportedStatement"
refusal_words (UnsupportedCell l) = codes "5 UnsupportedCell"
refusal_words (Hierarchy l) = codes "6 Hierarchy"
refusal_words (NoWire l) = codes "7 NoWire"
refusal_words (BadSlice l) = codes "8 BadSlice"
refusal_words (WidthMismatch l) = codes "9 WidthMismatch"
refusal_words (PortMissing l) = codes "10 PortMissing"
refusal_words (TwoDrivers l) = codes "11 TwoDrivers"
refusal_words (Undriven l) = codes "12 Undriven"
refusal_words (UnknownBit l) = codes "13 UnknownBit"
refusal_words (Limit w) = limit_words w
refusal_words (NoteForm l) = codes "15 NoteForm"
refusal_words (NoteMissing l) = codes "16 NoteMissing"
refusal_words (ShareGap l) = codes "17 ShareGap"
refusal_words (ShareDouble l) = codes "18 ShareDouble"
refusal_words (ClockUse l) = codes "19 ClockUse"
refusal_words (GateLoop l) = codes "20 GateLoop"
refusal_words (RegisterLoop l) = codes "21 RegisterLoop"
refusal_words (ResetNotHeld l) = codes "22 ResetNotHeld"
refusal_words (EnableNotHeld l) = codes "23 EnableNotHeld"
refusal_words (ShareMixed l) = codes "24 ShareMixed"
refusal_words (CoarseForm l) = codes "25 CoarseForm"
refusal_words (NoModule l) = codes "26 NoModule"
refusal_words (Recursion l) = codes "27 Recursion"
refusal_words (InstancePort l) = codes "28 InstancePort"
refusal_words (NameTwice l) = codes "29 NameTwice"

-- the line of a refusal, where it has one
abbrev pub line_of : Refusal → Option ℕ
line_of (BadToken l) = Some l
line_of (BadForm l) = Some l
line_of NoTop = None
line_of (UnsupportedStatement l) = Some l
line_of (UnsupportedCell l) = Some l
line_of (Hierarchy l) = Some l
line_of (NoWire l) = Some l
line_of (BadSlice l) = Some l
line_of (WidthMismatch l) = Some l
line_of (PortMissing l) = Some l
line_of (TwoDrivers l) = Some l
line_of (Undriven l) = Some l
line_of (UnknownBit l) = Some l
line_of (Limit w) = None
line_of (NoteForm l) = Some l
line_of (NoteMissing l) = Some l
line_of (ShareGap l) = Some l
line_of (ShareDouble l) = Some l
line_of (ClockUse l) = Some l
line_of (GateLoop l) = Some l
line_of (RegisterLoop l) = Some l
line_of (ResetNotHeld l) = Some l
line_of (EnableNotHeld l) = Some l
line_of (ShareMixed l) = Some l
line_of (CoarseForm l) = Some l
line_of (NoModule l) = Some l
line_of (Recursion l) = Some l
line_of (InstancePort l) = Some l
line_of (NameTwice l) = Some l

-- the words on a line, if there is one
abbrev pub place_words : Option ℕ → List ℕ
place_words None = []
place_words (Some l) = codes " line " ++ decimal l

-- the report on a refusal: its number, its name, and its line where it has one
abbrev pub refused_report : Refusal → List ℕ
refused_report refusal = line (codes "Refused " ++ refusal_words refusal ++ place_words (line_of refusal))

-- how the program is called
abbrev pub usage_text : List ℕ
usage_text =
    line (codes "usage: maskverif verify NOTION ORDER MODEL NETLIST [--workers N] [--certificate OUT] [--schedule SEED]")
    ++ line (codes "       maskverif check NOTION ORDER MODEL NETLIST CERTIFICATE")
    ++ line (codes "       maskverif generate SEED SHARES")
    ++ line (codes "       maskverif trial SEED SHARES")
