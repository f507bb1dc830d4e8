use Rattle.std.proofs.Common.{◌≡◌, map, ap, ◌∙◌}
use Rattle.mv_files.specs.StoredFile.{told_of}
use Rattle.mv_files.specs.MemoryFiles.{FilesState, put}
use Rattle.mv_files.proofs.Writing.{creates_put}
use Rattle.mv_files.proofs.memory_files.MemoryFilesFiles.create.Goals as goal

pub returns-clause-creates : goal.returns-clause-creates
returns-clause-creates c =
    let files : map told_of c.self.inside.files.items ≡ c.args.self.now.disk.files = ap (λ (m : FilesState). m.disk.files) c.self.view_is in
    creates_put c.args.name.now c.unwrap-slot.result c.put-file.result c.named.result c.put-file.new.files.items c.args.self.now.disk c.named.ensures
    (c.put-file.ensures.files ∙ ap (put c.named.result.name c.named.result.bytes) files) c.put-file.ensures.placed
