use Rattle.std.proofs.Common.{◌≡◌, ◌+◌, true, false, [], ap, sym, ◌∙◌, subst, arith}
use Rattle.cc_job.specs.declared.job.Job.{Job}
use Rattle.cc_job.specs.Jobs.{IsBadAt, IsJob, first_line}
use Rattle.std.specs.Str.{bytes_eq}
use Rattle.cc_words.specs.Lines.{next_line}
use Rattle.cc_job.specs.Reading.{IsStep, next_item}
use Rattle.cc_job.proofs.Standing.{Stands, not_false, not_true}
use Rattle.cc_words.proofs.LineLists.{lines-length}
use Rattle.cc_job.proofs.JobLaws.{turn, bad, cut_short, all_read, more_lines, bad_low, stands_low, first_bad, first_good}
use Rattle.cc_job.proofs.read.read_job.Goals as goal

pub returns-then-ne : goal.returns-then-ne
returns-then-ne c =
    let other = not_false (bytes_eq c.next_line.result.0.now c.as_slice.result.now) (sym c.if-ne.ensures) in
    first_bad c.args.bytes.now
    (subst (λ w. bytes_eq w first_line ≡ false) (ap (λ it. it.0) c.next_line.ensures) (subst (λ w. bytes_eq c.next_line.result.0.now w ≡ false) c.as_slice.ensures other))

pub loop-rest-init : goal.loop-rest-init
loop-rest-init c =
    let same = not_true (bytes_eq c.next_line.result.0.now c.as_slice.result.now) (sym c.if-ne.ensures) in
    let stands = first_good c.args.bytes.now
    (subst (λ w. bytes_eq w first_line ≡ true) (ap (λ it. it.0) c.next_line.ensures) (subst (λ w. bytes_eq c.next_line.result.0.now w ≡ true) c.as_slice.ensures same)) in
    subst (λ it. Stands c.args.bytes.now it c.new-devices.result.items c.new-commands.result.items 1) (sym (ap (λ it. it.1) c.next_line.ensures))
    (subst (λ it. Stands c.args.bytes.now (next_line c.args.bytes.now).1 it c.new-commands.result.items 1) (sym c.new-devices.ensures.items)
    (subst (λ it. Stands c.args.bytes.now (next_line c.args.bytes.now).1 [] it 1) (sym c.new-commands.ensures.items) stands))

pub overflow_add-number : goal.overflow_add-number
overflow_add-number c =
    let at = turn c.args.bytes.now c.loop-rest.devices.items c.loop-rest.commands.items c.loop-rest.number c.loop-rest.rest.now c.loop-rest.invariant (sym c.is_empty.ensures ∙ c.loop-rest-test.true) c.in-Ok-Read.count c.next_item.new.devices.items c.next_item.new.commands.items c.in-Ok-Read.behind.now (subst (λ it. IsStep it c.next_item.new.devices.items c.next_item.new.commands.items (next_item c.loop-rest.rest.now c.loop-rest.devices.items c.loop-rest.commands.items)) c.in-Ok-Read.field-0-is c.in-Ok-Read.ensures) in
    omega (arith, stands_low c.args.bytes.now c.in-Ok-Read.behind.now c.next_item.new.devices.items c.next_item.new.commands.items (c.loop-rest.number + (c.in-Ok-Read.count + 1)) at.stands)

pub overflow_add-number-in-Ok-Read : goal.overflow_add-number-in-Ok-Read
overflow_add-number-in-Ok-Read c =
    let at = turn c.args.bytes.now c.loop-rest.devices.items c.loop-rest.commands.items c.loop-rest.number c.loop-rest.rest.now c.loop-rest.invariant (sym c.is_empty.ensures ∙ c.loop-rest-test.true) c.in-Ok-Read.count c.next_item.new.devices.items c.next_item.new.commands.items c.in-Ok-Read.behind.now (subst (λ it. IsStep it c.next_item.new.devices.items c.next_item.new.commands.items (next_item c.loop-rest.rest.now c.loop-rest.devices.items c.loop-rest.commands.items)) c.in-Ok-Read.field-0-is c.in-Ok-Read.ensures) in
    omega (arith, stands_low c.args.bytes.now c.in-Ok-Read.behind.now c.next_item.new.devices.items c.next_item.new.commands.items (c.loop-rest.number + (c.in-Ok-Read.count + 1)) at.stands)

pub loop-rest-smaller : goal.loop-rest-smaller
loop-rest-smaller c = (turn c.args.bytes.now c.loop-rest.devices.items c.loop-rest.commands.items c.loop-rest.number c.loop-rest.rest.now c.loop-rest.invariant (sym c.is_empty.ensures ∙ c.loop-rest-test.true) c.in-Ok-Read.count c.next_item.new.devices.items c.next_item.new.commands.items c.in-Ok-Read.behind.now (subst (λ it. IsStep it c.next_item.new.devices.items c.next_item.new.commands.items (next_item c.loop-rest.rest.now c.loop-rest.devices.items c.loop-rest.commands.items)) c.in-Ok-Read.field-0-is c.in-Ok-Read.ensures)).shorter

pub loop-rest-preserved : goal.loop-rest-preserved
loop-rest-preserved c = (turn c.args.bytes.now c.loop-rest.devices.items c.loop-rest.commands.items c.loop-rest.number c.loop-rest.rest.now c.loop-rest.invariant (sym c.is_empty.ensures ∙ c.loop-rest-test.true) c.in-Ok-Read.count c.next_item.new.devices.items c.next_item.new.commands.items c.in-Ok-Read.behind.now (subst (λ it. IsStep it c.next_item.new.devices.items c.next_item.new.commands.items (next_item c.loop-rest.rest.now c.loop-rest.devices.items c.loop-rest.commands.items)) c.in-Ok-Read.field-0-is c.in-Ok-Read.ensures)).stands

pub overflow_add-result : goal.overflow_add-result
overflow_add-result c = omega (arith, more_lines c.args.bytes.now c.loop-rest.devices.items c.loop-rest.commands.items c.loop-rest.number c.loop-rest.rest.now c.loop-rest.invariant (sym c.is_empty.ensures ∙ c.loop-rest-test.true))

pub overflow_add-result-in-Ok-BadLine : goal.overflow_add-result-in-Ok-BadLine
overflow_add-result-in-Ok-BadLine c =
    let is = bad c.args.bytes.now c.loop-rest.devices.items c.loop-rest.commands.items c.loop-rest.number c.loop-rest.rest.now c.loop-rest.invariant (sym c.is_empty.ensures ∙ c.loop-rest-test.true) c.in-Ok-BadLine.place (subst (λ it. IsStep it c.next_item.new.devices.items c.next_item.new.commands.items (next_item c.loop-rest.rest.now c.loop-rest.devices.items c.loop-rest.commands.items)) c.in-Ok-BadLine.field-0-is c.in-Ok-BadLine.ensures) in
    omega (arith, bad_low c.args.bytes.now (c.loop-rest.number + 1 + c.in-Ok-BadLine.place) is)

pub returns-in-Ok-BadLine : goal.returns-in-Ok-BadLine
returns-in-Ok-BadLine c = bad c.args.bytes.now c.loop-rest.devices.items c.loop-rest.commands.items c.loop-rest.number c.loop-rest.rest.now c.loop-rest.invariant (sym c.is_empty.ensures ∙ c.loop-rest-test.true) c.in-Ok-BadLine.place (subst (λ it. IsStep it c.next_item.new.devices.items c.next_item.new.commands.items (next_item c.loop-rest.rest.now c.loop-rest.devices.items c.loop-rest.commands.items)) c.in-Ok-BadLine.field-0-is c.in-Ok-BadLine.ensures)

pub overflow_add-result-in-Ok-CutShort : goal.overflow_add-result-in-Ok-CutShort
overflow_add-result-in-Ok-CutShort c = omega (arith, c.line_count.ensures, lines-length c.args.bytes.now)

pub returns-in-Ok-CutShort : goal.returns-in-Ok-CutShort
returns-in-Ok-CutShort c =
    subst (λ n. IsBadAt c.args.bytes.now (n + 1)) (sym c.line_count.ensures) (cut_short c.args.bytes.now c.loop-rest.devices.items c.loop-rest.commands.items c.loop-rest.number c.loop-rest.rest.now c.loop-rest.invariant (sym c.is_empty.ensures ∙ c.loop-rest-test.true) (subst (λ it. IsStep it c.next_item.new.devices.items c.next_item.new.commands.items (next_item c.loop-rest.rest.now c.loop-rest.devices.items c.loop-rest.commands.items)) c.in-Ok-CutShort.field-0-is c.in-Ok-CutShort.ensures))

pub returns : goal.returns
returns c =
    let is = all_read c.args.bytes.now c.loop-rest.devices.items c.loop-rest.commands.items c.loop-rest.number c.loop-rest.rest.now c.loop-rest.invariant (sym c.is_empty.ensures ∙ c.loop-rest-test.false) in
    let P : Job → Type 0 = λ job. IsJob c.args.bytes.now job in
    subst (λ it. P (record { devices = c.new.result; commands = it })) (sym c.new-2.ensures)
    (subst (λ it. P (record { devices = it; commands = c.loop-rest.commands.items })) (sym c.new.ensures) is)
