use Rattle.std.proofs.Common.{◌≡◌, ◌++◌, map, option_map, refl, sym, ap, ◌∙◌, subst, arith}
use Rattle.std.specs.Prelude.{slice_index}
use Rattle.std.specs.List.{AllZip}
use Rattle.std.proofs.lemmas.Grind.{get_or_default_zero}
use Rattle.cc_device.specs.DeviceViews.{event_of}
use Rattle.cc_runs.specs.Interleavings.{interleave}
use Rattle.cc_tasks.specs.Reports.{told_event, world_in}
use Rattle.cc_tasks.specs.Tasks.{HaveEnded, IsNext, IsEndOf}
use Rattle.cc_tasks.proofs.Promises.{runs_entries, runs_soundly}
use Rattle.cc_tasks.proofs.Standing.{all_begin, all_go_on, all_go_one}
use Rattle.cc_tasks.proofs.TakenTurns.{stands_at_start, stands_after_turn, last_devices, report_told}
use Rattle.cc_tasks.proofs.tasks.run_tasks.Goals as goal

pub loop-place-init : goal.loop-place-init
loop-place-init c = record {
  stands = stands_at_start c.args.fuel c.args.schedule.now c.from_vec-order.result.items (map (λ program. program.now) c.args.programs.now) c.args.devices.now c.in_ok-tasks.tasks.items (map told_event c.new-trace.result.items)
      c.in_ok-tasks.ensures (c.from_vec-order.ensures.items ∙ c.in_ok-extend_from_slice.ensures.items ∙ ap (λ xs. xs ++ c.args.schedule.now) c.new-numbers.ensures.items) (ap (map told_event) c.new-trace.ensures.items);
  ready = all_begin c.args.devices.now c.args.fuel c.in_ok-tasks.tasks.items (map (λ program. program.now) c.args.programs.now) c.in_ok-tasks.ensures c.requires.positions (omega arith) c.requires.fits;
  shapes = λ number. refl;
}

pub take_turn-requires-clause-ready : goal.take_turn-requires-clause-ready
take_turn-requires-clause-ready c = all_go_one c.loop-place.devices c.loop-place.left c.loop-place.tasks.items c.in-Some.ensures.0 c.loop-place.invariant.ready

pub loop-place-preserved : goal.loop-place-preserved
loop-place-preserved c =
    let whole = interleave c.args.fuel c.args.schedule.now (world_in (map (λ program. program.now) c.args.programs.now) c.args.devices.now) in
    let some = c.in-Some.ensures.0 in
    let next : IsNext c.loop-place.tasks.items c.loop-place.order.items c.in-Some.place =
    subst (λ ts. IsNext ts c.loop-place.order.items c.in-Some.place) c.deref.ensures.value c.in-Some.ensures.1 in
    let there : slice_index c.loop-place.order.items c.in-Some.place ≡ c.index-number.result.now =
    sym (c.index-number.ensures ∙ get_or_default_zero c.loop-place.order.items c.in-Some.place c.index-number.result.now next.within) in
    record {
      stands = stands_after_turn whole c.loop-place.left c.loop-place.order.items c.rotate_left.new.self.items c.loop-place.tasks.items c.take_turn.new.tasks.items c.loop-place.devices
          c.take_turn.new.devices (map told_event c.loop-place.trace.items) (map told_event c.tell.new.trace.items) c.in-Some.place c.index-number.result.now
          (option_map event_of c.in_ok-event.event) c.loop-place.invariant.stands some next there c.in_ok-event.ensures.turn c.rotate_left.ensures.items c.in_ok-tell.ensures;
      ready = all_go_on c.loop-place.devices c.take_turn.new.devices c.loop-place.left c.index-number.result.now (option_map event_of c.in_ok-event.event) c.loop-place.tasks.items
          c.take_turn.new.tasks.items c.take_turn.ensures.shapes some c.in_ok-event.ensures.turn c.loop-place.invariant.ready;
      shapes = λ number. c.take_turn.ensures.shapes number ∙ c.loop-place.invariant.shapes number;
    }

pub returns-clause-report : goal.returns-clause-report
returns-clause-report c =
    let whole = interleave c.args.fuel c.args.schedule.now (world_in (map (λ program. program.now) c.args.programs.now) c.args.devices.now) in
    report_told whole c.loop-place.left c.loop-place.order.items c.loop-place.tasks.items c.loop-place.devices (map told_event c.loop-place.trace.items) c.loop-place.invariant.stands
    (λ left.
    subst (λ ts. HaveEnded ts c.loop-place.order.items) c.deref.ensures.value (c.in_default.ensures left))
    c.in_ok-ends.ends.items c.loop-place.invariant.ready (subst (λ ts. AllZip IsEndOf ts c.in_ok-ends.ends.items) c.deref-2.ensures.value c.in_ok-ends.ensures)

pub returns-clause-last : goal.returns-clause-last
returns-clause-last c =
    let whole = interleave c.args.fuel c.args.schedule.now (world_in (map (λ program. program.now) c.args.programs.now) c.args.devices.now) in
    last_devices whole c.loop-place.left c.loop-place.order.items c.loop-place.tasks.items c.loop-place.devices (map told_event c.loop-place.trace.items) c.loop-place.invariant.stands
    (λ left.
    subst (λ ts. HaveEnded ts c.loop-place.order.items) c.deref.ensures.value (c.in_default.ensures left))

pub returns-clause-promises : goal.returns-clause-promises
returns-clause-promises c =
    let whole = interleave c.args.fuel c.args.schedule.now (world_in (map (λ program. program.now) c.args.programs.now) c.args.devices.now) in
    runs_entries (map (λ program. program.now) c.args.programs.now) c.args.devices.now c.args.schedule.now c.args.fuel _
    (report_told whole c.loop-place.left c.loop-place.order.items c.loop-place.tasks.items c.loop-place.devices (map told_event c.loop-place.trace.items) c.loop-place.invariant.stands
    (λ left.
    subst (λ ts. HaveEnded ts c.loop-place.order.items) c.deref.ensures.value (c.in_default.ensures left))
    c.in_ok-ends.ends.items c.loop-place.invariant.ready (subst (λ ts. AllZip IsEndOf ts c.in_ok-ends.ends.items) c.deref-2.ensures.value c.in_ok-ends.ensures))

pub returns-clause-soundly : goal.returns-clause-soundly
returns-clause-soundly c = runs_soundly (map (λ program. program.now) c.args.programs.now) c.args.devices.now c.args.schedule.now c.args.fuel c.requires.fits
