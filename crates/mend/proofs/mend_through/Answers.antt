-- What the search leaves of `mend::mend_through`.
use Rattle.std.proofs.Common.{◌≡◌, ◌≤◌, length, rules, ap, ◌∙◌, arith}
use Rattle.std.specs.Prelude.{Ok}
use Rattle.rules.specs.Constants.{longest_sheet}
use Rattle.field.specs.Outcome.{check_of}
use Rattle.rules.specs.Refusal.{output_full}
use Rattle.writing.proofs.Written.{filled-up}
use Rattle.mended.specs.Mend.{mended, numbers_of, filled, refused_with, mend}
use Rattle.mended.specs.Mend as Rule
use Rattle.mend.proofs.Outcome.{written-end, list-fits, list-front, no-room, fitted}
use Rattle.mend.proofs.mend_through.Goals as goal

pub returns-in_err-need-clause-err : goal.returns-in_err-need-clause-err
returns-in_err-need-clause-err c =
    let s = c.args.sheet.now in
    let n = length c.args.mended.now in
    let k = length c.args.changes.now in
    let short : length s ≤ longest_sheet = c.requires.0 in
    let p = c.put_fields-ends.ensures.puts in
    let ok : ◌≡◌ (Ok tt) (check_of (Rule.mend_sheet s)) = search rules in
    let no : c.put_fields-ends.result.bytes ≤ n → c.put_fields-ends.result.numbers ≤ k → ⊥ = λ h i. search rules in
    let w : ◌≡◌ (refused_with n k output_full 0) (mend s n k) = no-room s p short c.requires.1 ok no in
    search rules

pub returns-clause-ok : goal.returns-clause-ok
returns-clause-ok c =
    let s = c.args.sheet.now in
    let p = c.put_fields-ends.ensures.puts in
    let short : length s ≤ longest_sheet = c.requires.0 in
    let ok : ◌≡◌ (Ok tt) (check_of (Rule.mend_sheet s)) = search rules in
    let room : c.put_fields-ends.result.bytes ≤ length c.args.mended.now = search rules in
    let more : c.put_fields-ends.result.numbers ≤ length c.args.changes.now = search rules in
    let end = written-end s p short c.requires.1 in
    let listed = list-fits s p more in
    let sheet = c.fill.ensures ∙ ap (filled (length c.args.mended.now)) (c.put_fields-ends.ensures.front c.requires.1).1 in
    let list = filled-up 0 (numbers_of (mended s).changes) c.args.changes.now _ _ _ _ p.changes_put c.put_copies.ensures listed in
    (λ i. record { refusal = 0; place = 0; written = end i; listed = (list-front s p listed).1 i; sheet = sheet i; list = list i })
    ∙ fitted s _ _ ok (omega arith) listed
