use Rattle.std.proofs.Common.{◌+◌, ◌-◌, ◌≤◌, length, ap, ◌∙◌, arith, rules}
use borrow.Rule.Slice.PartMut.{put_mid}
use Rattle.wire.specs.declared.fields.Field.TheVariants.{U8}
use Rattle.wire.proofs.fields.writes.write.Goals as goal
use Rattle.wire.proofs.FieldWrites.{step_fits, sofar_none, sofar_more, paste_is}

pub loop-field-init : goal.loop-field-init
loop-field-init c = sofar_none c.args.fields.now c.args.out.now

pub overflow_add-end : goal.overflow_add-end
overflow_add-end c =
    let h = step_fits c.args.fields.now c.loop-field.field-index (U8 0) c.loop-field.at (length c.args.out.now) c.loop-field-test.true c.loop-field.invariant.place (search rules) in
    let k : c.loop-field.at + c.size.result ≤ length c.args.out.now = omega (arith, c.size.ensures) in
    search rules

pub slice_bounds-put-end : goal.slice_bounds-put-end
slice_bounds-put-end c =
    let h = step_fits c.args.fields.now c.loop-field.field-index (U8 0) c.loop-field.at (length c.args.out.now) c.loop-field-test.true c.loop-field.invariant.place (search rules) in
    let k : c.loop-field.at + c.size.result ≤ length c.loop-field.out = omega (arith, c.size.ensures, c.loop-field.auto.out) in
    search rules

pub loop-field-preserved : goal.loop-field-preserved
loop-field-preserved c =
    sofar_more c.args.fields.now c.loop-field.field-index c.loop-field.at _ c.args.out.now c.loop-field.out _ _ c.loop-field.invariant c.loop-field-test.true c.size.ensures
    (ap (λ n. put_mid c.loop-field.at (c.loop-field.at + n - c.loop-field.at) c.loop-field.out c.put.new.out) c.size.ensures ∙ paste_is c.loop-field.at _ c.loop-field.out _ c.put.ensures)
