use Rattle.std.proofs.Common.{◌≡◌, ◌-◌, ◌+◌, ◌++◌, ◌∷◌, [], length, vec_len, arith, rules}
use Rattle.mv_files.proofs.Places.{at_same, nowhere_same, put_here, first_here, put_last, first_last}
use Rattle.mv_files.proofs.file_list.put.Goals as goal

pub returns-in-Some-clause-files : goal.returns-in-Some-clause-files
returns-in-Some-clause-files c =
    put_here c.args.file c.args.files.now.items c.in-Some.place
    (at_same c.name.result.now c.args.file.name c.deref.result.now c.args.files.now.items c.in-Some.place c.name.ensures c.deref.ensures.value c.in-Some.ensures)

pub returns-in-Some-clause-first : goal.returns-in-Some-clause-first
returns-in-Some-clause-first c =
    first_here c.args.file c.args.files.now.items c.in-Some.place
    (at_same c.name.result.now c.args.file.name c.deref.result.now c.args.files.now.items c.in-Some.place c.name.ensures c.deref.ensures.value c.in-Some.ensures)

pub returns-in-None-clause-files : goal.returns-in-None-clause-files
returns-in-None-clause-files c =
    let grown : c.push.new.self.items ≡ c.args.files.now.items ++ c.args.file ∷ [] = search rules in
    put_last c.args.file c.args.files.now.items c.push.new.self.items grown
    (nowhere_same c.name.result.now c.args.file.name c.deref.result.now c.args.files.now.items c.name.ensures c.deref.ensures.value c.in-None.ensures)

pub returns-in-None-clause-first : goal.returns-in-None-clause-first
returns-in-None-clause-first c =
    let grown : c.push.new.self.items ≡ c.args.files.now.items ++ c.args.file ∷ [] = search rules in
    let size : c.len.result - 1 ≡ length c.args.files.now.items = let one : vec_len c.push.new.self ≡ vec_len c.args.files.now + 1 = search rules in omega (arith, c.args.files.now.ok.0) in
    first_last c.args.file c.args.files.now.items c.push.new.self.items (c.len.result - 1) grown size
    (nowhere_same c.name.result.now c.args.file.name c.deref.result.now c.args.files.now.items c.name.ensures c.deref.ensures.value c.in-None.ensures)
