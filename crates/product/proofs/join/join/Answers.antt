-- `join::join` meets its contract: for each answer.
-- Assumes nothing.
use mathlib.Core.Path.{◌≡◌, refl, sym, ap, ◌∙◌}
use Rattle.std.specs.Prelude.{Err}
use native.Mathlib.Omega.{arith}
use lib.ListN.{length}
use Rattle.product.specs.declared.join.Refusal.TheVariants.{Length}
use Rattle.product.specs.Joining.{outcome_of}
use Rattle.product.proofs.Answers.{wrong_length, right_length, written_joinable, refusing, joining}
use Rattle.product.proofs.join.join.Goals as goal

pub returns-then-out-ne-SIZE : goal.returns-then-out-ne-SIZE
returns-then-out-ne-SIZE c =
    let a = c.args in
    refusing a.first.now a.second.now a.out.now (Err Length) Length refl (wrong_length (length a.out.now) a.first.now a.second.now c.if-out-ne-SIZE.true)

pub returns-in_err-length : goal.returns-in_err-length
returns-in_err-length c =
    let a = c.args in
    let sized_refused = c.if-out-ne-SIZE.false in
    let e = c.check.ensures ∙ right_length (length a.out.now) a.first.now a.second.now sized_refused in
    let gone : c.from_residual.result ≡ Err c.in_err-length.field-0.0 = grind arith in
    refusing a.first.now a.second.now a.out.now c.from_residual.result c.in_err-length.field-0.0 gone (ap outcome_of (gone ∙ sym c.in_err-length.was) ∙ e)

pub write-requires : goal.write-requires
write-requires c =
    let a = c.args in
    let sized_written = c.if-out-ne-SIZE.false in
    let t = c.in_ok-length in
    let e = c.check.ensures ∙ right_length (length a.out.now) a.first.now a.second.now sized_written in
    (written_joinable (length a.out.now) a.first.now a.second.now t.length (sym e ∙ ap outcome_of t.was), sized_written)

pub returns : goal.returns
returns c =
    let a = c.args in
    let sized_joined = c.if-out-ne-SIZE.false in
    let t = c.in_ok-length in
    let e = c.check.ensures ∙ right_length (length a.out.now) a.first.now a.second.now sized_joined in
    joining a.first.now a.second.now a.out.now c.write.new.out t.length (sym e ∙ ap outcome_of t.was) c.write.ensures
