use Rattle.std.proofs.Common.{◌++◌, length, map, get_or, refl, subst}
use Rattle.std.proofs.lemmas.List.{take_all, get_or_default}
use Rattle.circuit_types.specs.declared.nets.SignalBit.TheVariants.{Net}
use Rattle.net_build.specs.Drivers.{tied}
use Rattle.net_build.specs.Drives.{HasDriven}
use Rattle.net_build.specs.declared.drivers.Driver.TheVariants.{Cell}
use Rattle.net_build.proofs.DriveLemmas.{bit_within, drive_size, tied_more, none_driven}
use Rattle.net_build.proofs.drives.Drivers.tie.Goals as goal

pub loop-bit-init : goal.loop-bit-init
loop-bit-init c = (refl, none_driven c.args.self.now)

pub drive-requires : goal.drive-requires
drive-requires c =
    let b = get_or c.args.bits.now c.loop-bit.bit-index (Net 0) in
    let same = get_or_default c.args.bits.now c.loop-bit.bit-index (Net 0) b c.loop-bit-test.true in
    bit_within (length c.args.self.now.list.items) (length c.loop-bit.self.list.items) c.args.bits.now c.loop-bit.bit-index b c.requires c.loop-bit-test.true same c.loop-bit.invariant.0

pub loop-bit-preserved : goal.loop-bit-preserved
loop-bit-preserved c =
    let b = get_or c.args.bits.now c.loop-bit.bit-index (Net 0) in
    let same = get_or_default c.args.bits.now c.loop-bit.bit-index (Net 0) b c.loop-bit-test.true in
    let w = bit_within (length c.args.self.now.list.items) (length c.loop-bit.self.list.items) c.args.bits.now c.loop-bit.bit-index b c.requires c.loop-bit-test.true same c.loop-bit.invariant.0 in (
      drive_size (length c.args.self.now.list.items) c.loop-bit.self.list.items c.drive.new.self.list.items b (Cell c.args.number) c.drive.ensures.list c.loop-bit.invariant.0,
      tied_more c.args.line c.args.number c.args.bits.now c.loop-bit.bit-index b c.args.self.now c.loop-bit.self c.drive.new.self c.loop-bit-test.true same
          w c.drive.ensures.list c.drive.ensures.refused c.loop-bit.invariant.1,
    )

pub returns-clause-driven : goal.returns-clause-driven
returns-clause-driven c = λ ws ds h.
    subst (λ v. HasDriven ws (ds ++ map (tied c.args.line c.args.number) v) c.loop-bit.self) (take_all c.loop-bit.bit-index c.args.bits.now c.loop-bit-test.false) (c.loop-bit.invariant.1 ws ds h)
