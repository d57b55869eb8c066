-- `convert::convert` meets its contract, for each answer.
-- Assumes nothing.
use mathlib.Core.Path.{◌≡◌, refl, sym, ap, ◌∙◌}
use Rattle.std.specs.Prelude.{Err}
use native.Mathlib.Omega.{arith}
use lib.ListN.{length}
use Rattle.logs.specs.declared.convert.Refusal.TheVariants.{Length}
use Rattle.logs.specs.Conversion.{dates_in, outcome_of}
use Rattle.logs.proofs.Answers.{not_whole, not_sized, by_records, refusing, converting}
use Rattle.logs.proofs.convert.convert.Goals as goal

pub returns-then-log-ne0 : goal.returns-then-log-ne0
returns-then-log-ne0 c =
    let a = c.args in
    refusing a.f a.log.now a.out.now (Err Length) Length refl (sym (not_whole (length a.log.now) (length a.out.now) (dates_in a.f a.log.now) c.if-log-ne0.true))

pub returns-then-out-log : goal.returns-then-out-log
returns-then-out-log c =
    let a = c.args in
    refusing a.f a.log.now a.out.now (Err Length) Length refl (sym (not_sized (length a.log.now) (length a.out.now) (dates_in a.f a.log.now) c.if-out-log.true))

pub returns-in_err-check_records : goal.returns-in_err-check_records
returns-in_err-check_records c =
    let a = c.args in
    let whole_refused = c.if-log-ne0.false in
    let e = c.check_records.ensures ∙ sym (by_records (length a.log.now) (length a.out.now) (dates_in a.f a.log.now) whole_refused c.if-out-log.false) in
    let gone : c.from_residual.result ≡ Err c.in_err-check_records.field-0.0 = grind arith in
    refusing a.f a.log.now a.out.now c.from_residual.result c.in_err-check_records.field-0.0 gone (ap outcome_of (gone ∙ sym c.in_err-check_records.was) ∙ e)

pub returns : goal.returns
returns c =
    let a = c.args in
    let whole_converted = c.if-log-ne0.false in
    let e = by_records (length a.log.now) (length a.out.now) (dates_in a.f a.log.now) whole_converted c.if-out-log.false ∙ sym c.check_records.ensures ∙ ap outcome_of c.in_ok-check_records.was in
    converting a.f a.log.now a.out.now c.write.new.out e c.write.ensures
