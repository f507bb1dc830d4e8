use Rattle.std.proofs.Common.{◌∙◌, ◌+◌, ◌*◌, ℕ, List, length, get_or, ap, arith, length-set}
use Rattle.std.specs.declared.alloc.Global.{Global}
use Rattle.std.specs.declared.vec.Vec.{Vec}
use Rattle.circuit_types.specs.declared.roles.InputRole.{InputRole}
use Rattle.term_build.proofs.ShareBits.{share_bits-made, share_bits-no, share_bits-yes}
use Rattle.term_build.proofs.share_rows.share_bits.Goals.{in-Share, in_default}
use Rattle.term_build.proofs.share_rows.share_bits.Goals as goal

pub returns : goal.returns
returns c =
    let inputs = c.args.roles.now.inputs in
    share_bits-made c.args.roles.now c.loop-input.bits.items c.requires.shares c.loop-input.invariant.count
    (λ j s i d lt is. c.loop-input.invariant.each j s i d (omega (arith, c.loop-input-test.false, ap length c.as_slice-input-items.ensures))
    (ap (λ (xs : List InputRole). (get_or xs j d).role) c.as_slice-input-items.ensures ∙ is)
    ∙ ap (λ (xs : List InputRole). (get_or xs j d).bit) c.as_slice-input-items.ensures)

pub loop-input-preserved : goal.loop-input-preserved
loop-input-preserved c =
    let roles = c.args.roles.now in
    let inputs = c.as_slice-input-items.result.now in
    let k = c.loop-input.input-index in
    elim c.match-input.branch [
      | in-Share w ↦
          let items = ap (λ (v : Vec ℕ Global). v.items) w.bits-is in
          record {
            count = ap length items ∙ length-set c.loop-input.bits.items _ _ ∙ c.loop-input.invariant.count;
            each = λ j s i d lt is.
                ap (λ bits. get_or bits (s * roles.shares + i) 0) items
                ∙ share_bits-yes roles inputs c.loop-input.bits.items k _ c.as_slice-input-items.ensures c.loop-input-test.true w.in-Share.secret w.in-Share.share c.requires.shares c.loop-input.invariant.count w.in-Share.is
                c.loop-input.invariant.each j s i d lt is;
          }
      | in_default w ↦
          let items = ap (λ (v : Vec ℕ Global). v.items) w.bits-is in
          record {
            count = ap length items ∙ c.loop-input.invariant.count;
            each = λ j s i d lt is.
                ap (λ bits. get_or bits (s * roles.shares + i) 0) items
                ∙ share_bits-no roles inputs c.loop-input.bits.items k _ c.as_slice-input-items.ensures c.loop-input-test.true w.in_default.not-Share c.loop-input.invariant.each j s i d lt is;
          }
    ]
