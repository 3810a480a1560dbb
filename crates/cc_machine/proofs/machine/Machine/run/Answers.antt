use Rattle.std.proofs.Common.{◌≡◌, ◌+◌, ◌++◌, length, map, option_map, refl, sym, ap, ◌∙◌, subst, arith}
use Rattle.cc_device.specs.DeviceViews.{event_of}
use Rattle.cc_machine.specs.declared.runs.RunReport.{RunReport}
use Rattle.cc_machine.specs.Machines.{held_by}
use Rattle.cc_machine.specs.Reports.{HasEnd}
use Rattle.cc_machine.specs.Standing.{StepsAlike}
use Rattle.cc_runs.specs.Machine.{Final, step}
use Rattle.cc_runs.specs.SoundRuns.{HasShapesOfCells}
use Rattle.cc_machine.proofs.RunLemmas.{AllGoOnward, listed, goes_onward, traced, untraced, reported, tells_fuel, operates_reached, well_scoped_from}
use Rattle.cc_machine.proofs.machine.Machine.run.Goals as goal
use Rattle.cc_machine.proofs.machine.Machine.run.Goals.{in-Some+in_ok-push-in-Some, in-None}

pub make_room-requires : goal.make_room-requires
make_room-requires c = omega (arith, c.loop-self-test.ensures.0, c.loop-self.invariant.cells, c.requires.positions)

pub returns-in_err-make_room-clause-fits : goal.returns-in_err-make_room-clause-fits
returns-in_err-make_room-clause-fits c = subst (λ h. HasShapesOfCells h.store c.loop-self.devices) (sym c.make_room.ensures.held) c.loop-self.invariant.fits

pub step-requires-clause-positions : goal.step-requires-clause-positions
step-requires-clause-positions c =
    omega (arith, c.loop-self-test.ensures.0, ap (λ h. length h.store) c.make_room.ensures.held, c.loop-self.invariant.cells, c.requires.positions)

pub step-requires-clause-fits : goal.step-requires-clause-fits
step-requires-clause-fits c = subst (λ h. HasShapesOfCells h.store c.loop-self.devices) (sym c.make_room.ensures.held) c.loop-self.invariant.fits

pub step-requires-clause-running : goal.step-requires-clause-running
step-requires-clause-running c = subst (λ h. step h ≡ Final → ⊥) (sym c.make_room.ensures.held) c.loop-self-test.ensures.1

pub loop-self-preserved : goal.loop-self-preserved
loop-self-preserved c =
    let less = c.loop-self-test.ensures.0 in
    let events = map event_of c.loop-self.trace.items in
    let further =
    goes_onward c.args.fuel (held_by c.args.self.now) c.args.devices.now events c.loop-self.steps (held_by c.loop-self.self) (held_by c.step.new.self)
    c.loop-self.devices c.step.new.devices (option_map event_of c.in_ok-event.field-0) less c.loop-self.invariant.onward
    (subst (λ h. StepsAlike h c.loop-self.devices (option_map event_of c.in_ok-event.field-0) (held_by c.step.new.self) c.step.new.devices) c.make_room.ensures.held
    c.in_ok-event.ensures.steps) in
    record {
      onward =
          elim c.match-branch-3.branch [
            | in-Some+in_ok-push-in-Some w ↦
                traced c.loop-self.trace.items c.match-branch-3.trace.items w.in-Some.event
                (ap (λ t. t.items) w.trace-is ∙ w.in_ok-push-in-Some.ensures.items)
                (subst (λ o. AllGoOnward c.args.fuel (held_by c.args.self.now) c.args.devices.now (events ++ listed (option_map event_of o)) (c.loop-self.steps + 1) (held_by c.step.new.self) c.step.new.devices)
                w.in-Some.is further)
            | in-None w ↦
                subst (λ t. AllGoOnward c.args.fuel (held_by c.args.self.now) c.args.devices.now (map event_of t.items) (c.loop-self.steps + 1) (held_by c.step.new.self) c.step.new.devices)
                (sym w.trace-is)
                (untraced events
                (subst (λ o. AllGoOnward c.args.fuel (held_by c.args.self.now) c.args.devices.now (events ++ listed (option_map event_of o)) (c.loop-self.steps + 1) (held_by c.step.new.self) c.step.new.devices)
                w.in-None.is further))
          ];
      fits = c.step.ensures.fits;
      shapes = λ number. c.step.ensures.shapes number ∙ c.loop-self.invariant.shapes number;
      cells = omega (arith, c.step.ensures.cells, ap (λ h. length h.store) c.make_room.ensures.held, c.loop-self.invariant.cells);
      within = omega (arith, less);
    }

pub returns-clause-runs : goal.returns-clause-runs
returns-clause-runs c =
    let held = held_by c.loop-self.self in
    let report : RunReport = record { trace = c.loop-self.trace; end = c.end.result; steps = c.loop-self.steps } in
    let reports =
    reported c.args.fuel (held_by c.args.self.now) c.args.devices.now (map event_of c.loop-self.trace.items) c.loop-self.steps held c.loop-self.devices report
    c.loop-self.invariant.onward c.end.ensures (λ is. c.loop-self-test.ensures (subst (HasEnd held) is c.end.ensures))
    c.loop-self.invariant.fits c.loop-self.self.sound refl refl in
    reports

pub returns-clause-fuel : goal.returns-clause-fuel
returns-clause-fuel c =
    let held = held_by c.loop-self.self in
    let report : RunReport = record { trace = c.loop-self.trace; end = c.end.result; steps = c.loop-self.steps } in
    let reports =
    reported c.args.fuel (held_by c.args.self.now) c.args.devices.now (map event_of c.loop-self.trace.items) c.loop-self.steps held c.loop-self.devices report
    c.loop-self.invariant.onward c.end.ensures (λ is. c.loop-self-test.ensures (subst (HasEnd held) is c.end.ensures))
    c.loop-self.invariant.fits c.loop-self.self.sound refl refl in
    tells_fuel c.args.fuel (held_by c.args.self.now) c.args.devices.now report held c.loop-self.devices reports

pub returns-clause-reached : goal.returns-clause-reached
returns-clause-reached c =
    let held = held_by c.loop-self.self in
    let report : RunReport = record { trace = c.loop-self.trace; end = c.end.result; steps = c.loop-self.steps } in
    let reports =
    reported c.args.fuel (held_by c.args.self.now) c.args.devices.now (map event_of c.loop-self.trace.items) c.loop-self.steps held c.loop-self.devices report
    c.loop-self.invariant.onward c.end.ensures (λ is. c.loop-self-test.ensures (subst (HasEnd held) is c.end.ensures))
    c.loop-self.invariant.fits c.loop-self.self.sound refl refl in
    operates_reached c.args.fuel (held_by c.args.self.now) c.args.devices.now report held c.loop-self.devices reports c.requires.fits

pub returns-clause-scoped : goal.returns-clause-scoped
returns-clause-scoped c =
    let held = held_by c.loop-self.self in
    let report : RunReport = record { trace = c.loop-self.trace; end = c.end.result; steps = c.loop-self.steps } in
    let reports =
    reported c.args.fuel (held_by c.args.self.now) c.args.devices.now (map event_of c.loop-self.trace.items) c.loop-self.steps held c.loop-self.devices report
    c.loop-self.invariant.onward c.end.ensures (λ is. c.loop-self-test.ensures (subst (HasEnd held) is c.end.ensures))
    c.loop-self.invariant.fits c.loop-self.self.sound refl refl in
    well_scoped_from c.args.fuel (held_by c.args.self.now) c.args.devices.now report held c.loop-self.devices reports c.requires.fits
