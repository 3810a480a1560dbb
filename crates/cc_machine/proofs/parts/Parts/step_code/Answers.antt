use Rattle.cc_machine.specs.Asking.{question_of}
use Rattle.cc_machine.proofs.AskedSteps.{asked_here, takes_no_memory, stuck_here, code_asks_nothing, code_goes}
use Rattle.cc_machine.proofs.parts.Parts.step_code.Goals as goal

pub operate-requires-clause-wanted : goal.operate-requires-clause-wanted
operate-requires-clause-wanted c =
    asked_here c.args.self.now c.args.node c.args.environment c.requires.focus _ _ _ c.in-Operate.is (question_of c.in-Some.wanted) c.in-Some.ensures

pub returns-in-Some-clause-no_memory : goal.returns-in-Some-clause-no_memory
returns-in-Some-clause-no_memory c = λ none.
    c.operate.ensures.no_memory
    (takes_no_memory c.args.self.now c.args.node c.args.environment c.requires.focus _ _ _ c.in-Operate.is (question_of c.in-Some.wanted) c.in-Some.ensures none)

pub returns-in-None-clause-moves : goal.returns-in-None-clause-moves
returns-in-None-clause-moves c =
    stuck_here c.args.self.now c.args.node c.args.environment c.requires.focus _ _ _ c.in-Operate.is c.args.devices.now c.requires.linked c.in-None.ensures

pub advance_code-requires-clause-unasked : goal.advance_code-requires-clause-unasked
advance_code-requires-clause-unasked c = code_asks_nothing c.args.self.now c.args.node c.args.environment c.requires.focus c.in_default.not-Operate

pub returns-in_default-clause-moves : goal.returns-in_default-clause-moves
returns-in_default-clause-moves c = code_goes c.args.self.now c.args.node c.args.environment c.requires.focus c.args.devices.now c.advance_code.ensures
