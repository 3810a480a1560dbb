use Rattle.std.proofs.Common.{◌≡◌, ◌<◌, length, refl, ap, subst, ◌∙◌, arith}
use Rattle.cc_core.specs.TermViews.{context_of}
use Rattle.cc_certificate_text.specs.Certificates.{Binding}
use Rattle.cc_certificate_text.specs.Reading.{Got}
use Rattle.cc_certificate_text.specs.LineReading.{next_line}
use Rattle.cc_certificate_reading.specs.Progress.{entry_line_of, IsPlacedEntry}
use Rattle.cc_certificate_reading.proofs.Progress.{opening_refused, begin_with, entry_refused, end_refused, further, put_last, shorter, few_names, heading_there}
use Rattle.cc_certificate_reading.proofs.read.read_heading.Goals as goal

pub returns-in-Err-clause-heading : goal.returns-in-Err-clause-heading
returns-in-Err-clause-heading c = opening_refused c.args.bytes.now c.in-Err.stop c.stopped.result c.in-Err.ensures c.stopped.ensures

pub loop-rest-init : goal.loop-rest-init
loop-rest-init c =
    begin_with c.args.bytes.now c.new.result c.new-2.result.items (context_of c.new-3.result) c.in-Ok.read.1.now
    c.new.ensures c.new-2.ensures.items (ap context_of c.new-3.ensures) c.in-Ok.ensures

pub read_entry-requires : goal.read_entry-requires
read_entry-requires c = few_names _ _ _ _ _ _ c.loop-rest.invariant

pub returns-in-Err-read_entry-clause-heading : goal.returns-in-Err-read_entry-clause-heading
returns-in-Err-read_entry-clause-heading c =
    let some : 0 < length c.loop-rest.rest.now = omega arith in
    entry_refused _ _ _ _ _ _ c.loop-rest.invariant c.in-Err-read_entry.stop c.stopped-in-Err-read_entry.result some
    c.in-Err-read_entry.ensures.read c.stopped-in-Err-read_entry.ensures

pub loop-rest-smaller : goal.loop-rest-smaller
loop-rest-smaller c =
    shorter _ _ _ _ _ _ c.loop-rest.invariant (entry_line_of c.in-Ok-read_entry.read.0) c.in-Ok-read_entry.read.1.now c.in-Ok-read_entry.ensures.read

pub loop-rest-preserved : goal.loop-rest-preserved
loop-rest-preserved c =
    let bind = subst (λ e. next_line (Binding c.loop-rest.bound.names (context_of c.loop-rest.bound.ctx)) c.loop-rest.rest.now ≡ Got (entry_line_of e) c.in-Ok-read_entry.read.1.now)
    c.in-Bind.is c.in-Ok-read_entry.ensures.read in
    further _ _ _ _ _ _ c.loop-rest.invariant c.add_bind.new.bound.names c.add_bind.new.bound.binds.items (context_of c.add_bind.new.bound.ctx)
    c.in_ok-lines.lines c.in-Bind.name c.in-Bind.ty c.in-Ok-read_entry.read.1.now bind
    (c.in_ok-add_bind-in-Bind.ensures.names ∙ put_last _ _ _ _ _ _ c.loop-rest.invariant c.in-Bind.name c.in-Bind.ty c.in-Ok-read_entry.read.1.now bind)
    c.in_ok-add_bind-in-Bind.ensures.binds c.in_ok-add_bind-in-Bind.ensures.context c.in_ok-lines.ensures.next c.in_ok-lines.ensures.low

pub returns-in-Term-clause-heading : goal.returns-in-Term-clause-heading
returns-in-Term-clause-heading c =
    let term = subst (λ e. next_line (Binding c.loop-rest.bound.names (context_of c.loop-rest.bound.ctx)) c.loop-rest.rest.now ≡ Got (entry_line_of e) c.in-Ok-read_entry.read.1.now)
    c.in-Term.is c.in-Ok-read_entry.ensures.read in
    heading_there _ _ _ _ _ _ c.loop-rest.invariant
    (record { names = c.loop-rest.bound.names; binds = c.loop-rest.bound.binds; term = c.in-Term.term; lines = c.in_ok-lines.lines })
    c.in-Ok-read_entry.read.1.now refl refl c.in_ok-lines.ensures.next term

pub returns-in-Term-clause-placed : goal.returns-in-Term-clause-placed
returns-in-Term-clause-placed c = subst IsPlacedEntry c.in-Term.is c.in-Ok-read_entry.ensures.placed

pub returns-clause-heading : goal.returns-clause-heading
returns-clause-heading c =
    let none : length c.loop-rest.rest.now ≡ 0 = omega arith in
    end_refused _ _ _ _ _ _ c.loop-rest.invariant c.stopped-2.result none c.stopped-2.ensures
