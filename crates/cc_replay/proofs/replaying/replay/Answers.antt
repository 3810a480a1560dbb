use Rattle.std.proofs.Common.{◌+◌, ◌-◌, sym, ap, ◌∙◌, subst, arith}
use Rattle.std.proofs.lemmas.Result.{IfOk-weaker}
use Rattle.cc_machine.specs.Machines.{held_by}
use Rattle.cc_machine.specs.Programs.{start_of}
use Rattle.cc_replay.specs.Comparing.{decided_after}
use Rattle.cc_replay.specs.Replays.{replay_from}
use Rattle.cc_words.specs.Lines.{lines_of}
use Rattle.cc_replay.proofs.LineByLine.{StandsAt, stands_silent, stands_told, differs_here, ends_so, start_held}
use Rattle.cc_replay.proofs.SafeTraces.{safely_traced}
use Rattle.cc_replay.proofs.replaying.replay.Goals as goal
use Rattle.cc_replay.proofs.replaying.replay.Goals.{in-Nothing, in-Line}

pub returns-in-Another-clause-exact : goal.returns-in-Another-clause-exact
returns-in-Another-clause-exact c =
    let names = c.args.names.now.names.items in
    let steps = c.loop-machine.steps in
    let next = held_by c.follow.new.machine in
    sym (differs_here names c.args.fuel (held_by c.in_ok-machine.machine) c.args.lines.now steps c.loop-machine.met (held_by c.loop-machine.machine) next c.loop-machine.rest.now
    c.loop-machine.invariant.stands c.loop-machine-test.ensures.0
    (c.in_ok-follow.ensures.told steps (replay_from names (steps + 1) (c.args.fuel - (steps + 1)))
    ∙ ap (decided_after (replay_from names (steps + 1) (c.args.fuel - (steps + 1)) next) c.loop-machine.rest.now) c.in-Another.is))
    ∙ start_held names c.args.fuel (held_by c.in_ok-machine.machine) (start_of c.args.program.now) (lines_of c.args.lines.now) c.in_ok-machine.ensures.start

pub loop-machine-preserved : goal.loop-machine-preserved
loop-machine-preserved c =
    let names = c.args.names.now.names.items in
    let start = held_by c.in_ok-machine.machine in
    let lines = c.args.lines.now in
    let steps = c.loop-machine.steps in
    let met = c.loop-machine.met in
    let held = held_by c.loop-machine.machine in
    let next = held_by c.follow.new.machine in
    let rest = c.loop-machine.rest.now in
    let stands = c.loop-machine.invariant.stands in
    let less = c.loop-machine-test.ensures.0 in
    let told = c.in_ok-follow.ensures.told steps (replay_from names (steps + 1) (c.args.fuel - (steps + 1))) in
    let decides = decided_after (replay_from names (steps + 1) (c.args.fuel - (steps + 1)) next) rest in
    record {
      stands =
          elim c.match-branch-3.branch [
            | in-Nothing w ↦
                subst (λ r. StandsAt names c.args.fuel start lines (steps + 1) c.match-branch-3.met next r.now) (sym w.rest-is)
                (subst (λ m. StandsAt names c.args.fuel start lines (steps + 1) m next rest) (sym w.met-is)
                (stands_silent names c.args.fuel start lines steps met held next rest stands less (told ∙ ap decides w.in-Nothing.is)))
            | in-Line w ↦
                subst (λ r. StandsAt names c.args.fuel start lines (steps + 1) c.match-branch-3.met next r.now) (sym w.rest-is)
                (subst (λ m. StandsAt names c.args.fuel start lines (steps + 1) m next w.in-Line.others.now) (sym w.met-is)
                (stands_told names c.args.fuel start lines steps met held next rest stands less w.in-Line.others.now (told ∙ ap decides w.in-Line.is)))
          ];
      cells = omega (arith, c.in_ok-follow.ensures.cells, c.loop-machine.invariant.cells);
    }

pub returns-clause-exact : goal.returns-clause-exact
returns-clause-exact c =
    let names = c.args.names.now.names.items in
    IfOk-weaker c.end_told.result _ _
    (λ it is.
    is
    ∙ sym (ends_so names c.args.fuel (held_by c.in_ok-machine.machine) c.args.lines.now c.loop-machine.steps c.loop-machine.met (held_by c.loop-machine.machine) c.loop-machine.rest.now
    c.loop-machine.invariant.stands c.loop-machine-test.ensures)
    ∙ start_held names c.args.fuel (held_by c.in_ok-machine.machine) (start_of c.args.program.now) (lines_of c.args.lines.now) c.in_ok-machine.ensures.start)
    c.end_told.ensures

pub returns-clause-safe : goal.returns-clause-safe
returns-clause-safe c =
    let names = c.args.names.now.names.items in
    IfOk-weaker c.end_told.result _ _
    (λ it is agrees.
    safely_traced names c.args.fuel (start_of c.args.program.now) (lines_of c.args.lines.now) c.starts_soundly.ensures.sound
    (sym (start_held names c.args.fuel (held_by c.in_ok-machine.machine) (start_of c.args.program.now) (lines_of c.args.lines.now) c.in_ok-machine.ensures.start)
    ∙ ends_so names c.args.fuel (held_by c.in_ok-machine.machine) c.args.lines.now c.loop-machine.steps c.loop-machine.met (held_by c.loop-machine.machine) c.loop-machine.rest.now
    c.loop-machine.invariant.stands c.loop-machine-test.ensures
    ∙ sym is ∙ agrees))
    c.end_told.ensures
