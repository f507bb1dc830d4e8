use Rattle.std.proofs.Common.{◌++◌, length, map, get_or, refl, subst, arith}
use Rattle.std.specs.List.{zip}
use Rattle.std.proofs.lemmas.List.{take_all, get_or_default}
use Rattle.circuit_types.specs.declared.nets.SignalBit.TheVariants.{Net}
use Rattle.std.proofs.lemmas.Slice.Zip.{length-zip}
use Rattle.net_build.specs.Drivers.{joined}
use Rattle.net_build.specs.Drives.{HasDriven}
use Rattle.net_build.specs.declared.drivers.Driver.TheVariants.{Bit}
use Rattle.net_build.proofs.DriveLemmas.{bit_within, drive_size, joined_more, none_driven}
use Rattle.net_build.proofs.drives.Drivers.join.Goals as goal

pub loop-place-init : goal.loop-place-init
loop-place-init c = (refl, none_driven c.args.self.now)

pub drive-requires : goal.drive-requires
drive-requires c =
    let b = get_or c.args.left.now c.loop-place.place (Net 0) in
    let same = get_or_default c.args.left.now c.loop-place.place (Net 0) b c.loop-place-test.true in
    bit_within (length c.args.self.now.list.items) (length c.loop-place.self.list.items) c.args.left.now c.loop-place.place b c.requires.within c.loop-place-test.true same c.loop-place.invariant.0

pub loop-place-preserved : goal.loop-place-preserved
loop-place-preserved c =
    let i = c.loop-place.place in
    let b = get_or c.args.left.now i (Net 0) in
    let a = get_or c.args.right.now i (Net 0) in
    let same = get_or_default c.args.left.now i (Net 0) b c.loop-place-test.true in
    let other = get_or_default c.args.right.now i (Net 0) a (omega (arith, c.loop-place-test.true, c.requires.fits)) in
    let w = bit_within (length c.args.self.now.list.items) (length c.loop-place.self.list.items) c.args.left.now i b c.requires.within c.loop-place-test.true same c.loop-place.invariant.0 in (
      drive_size (length c.args.self.now.list.items) c.loop-place.self.list.items c.drive.new.self.list.items b (Bit a) c.drive.ensures.list c.loop-place.invariant.0,
      joined_more c.args.line c.args.left.now c.args.right.now i b a c.args.self.now c.loop-place.self c.drive.new.self c.loop-place-test.true c.requires.fits same other
          w c.drive.ensures.list c.drive.ensures.refused c.loop-place.invariant.1,
    )

pub returns-clause-driven : goal.returns-clause-driven
returns-clause-driven c = λ ws ds h.
    let size = length-zip c.args.left.now c.args.right.now in
    subst (λ v. HasDriven ws (ds ++ map (joined c.args.line) v) c.loop-place.self)
    (take_all c.loop-place.place (zip c.args.left.now c.args.right.now) (omega (arith, size, c.loop-place-test.false))) (c.loop-place.invariant.1 ws ds h)
