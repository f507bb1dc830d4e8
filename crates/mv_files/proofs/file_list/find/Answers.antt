use Rattle.std.proofs.Common.{rules, tests, ◌≡◌, position}
use Rattle.std.proofs.lemmas.Iterator.{YieldsList-from_slice}
use Rattle.std.proofs.lemmas.Iterator.Search.{position_from_yields_List}
use Rattle.std.specs.Str.{bytes_eq}
use Rattle.mv_files.specs.StoredFile.{Stored}
use Rattle.mv_files.proofs.Places.{by_position}
use Rattle.mv_files.proofs.file_list.find.Goals as goal

pub returns : goal.returns
returns c =
    let xs = c.args.files.now in
    let e : c.position.result ≡ position (λ (f : Stored). bytes_eq c.args.name.now f.name) c.args.files.now = position_from_yields_List (λ (f : Stored). bytes_eq c.args.name.now f.name) _ _ c.position.result c.position.ensures.ran (YieldsList-from_slice xs cc) (λ x b q k. search (rules, tests)) in
    by_position c.args.name.now c.args.files.now c.position.result e
