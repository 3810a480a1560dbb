use Rattle.std.proofs.Common.{◌≡◌, ◌+◌, ◌++◌, ◌∷◌, [], ◌∙◌, List, Option, Some, length, map, reverse, ap, sym, subst, arith}
use Rattle.std.proofs.Common.{append-nil}
use Rattle.std.proofs.lemmas.List.{length_push, nil_from_length}
use Rattle.cc_judge.specs.declared.plans.Plan.{Plan}
use Rattle.cc_judge.specs.Carrying.{left_by, AreReady}
use Rattle.cc_judge.specs.Kept.{judgements_of}
use Rattle.cc_judge.specs.Plans.{planned}
use Rattle.cc_judge.proofs.CarryLemmas.{last_within, last_made, front_ready, front_within, carried_more}
use Rattle.cc_verdicts.proofs.Asking.{map-reverse}
use Rattle.cc_judge.proofs.carrying.carry_out.Goals as goal

pub loop-next-init : goal.loop-next-init
loop-next-init c =
    record {
      ready = c.requires.ready;
      old_each = c.requires.old_each;
      one_each = c.requires.one_each;
      room = c.requires.room;
      carried =
          ap (λ js. map (planned (judgements_of c.args.old)) c.args.plans.items ++ reverse (map Some js))
          c.requires.empty
          ∙ append-nil (map (planned (judgements_of c.args.old)) c.args.plans.items);
    }

pub carry-requires-clause-within : goal.carry-requires-clause-within
carry-requires-clause-within c =
    let front = c.pop.new.self.items in
    let count = length c.loop-next.old.verdicts.items in
    let R : List (Option Plan) → Type 0 = λ ps. AreReady ps count in
    last_within front c.in-Some-next.plan count
    (subst R (c.in-Some.ensures.items ∙ ap (λ o. front ++ o ∷ []) c.in-Some-next.is) c.loop-next.invariant.ready)

pub carry-requires-clause-room : goal.carry-requires-clause-room
carry-requires-clause-room c =
    let more = ap length c.in-Some.ensures.items ∙ length_push c.pop.new.self.items c.in-Some.next in
    (omega (arith, more, c.loop-next.invariant.room.0), omega (arith, more, c.loop-next.invariant.room.1))

pub loop-next-preserved-in-Some-next : goal.loop-next-preserved-in-Some-next
loop-next-preserved-in-Some-next c =
    let front = c.pop.new.self.items in
    let plan = c.in-Some-next.plan in
    let count = length c.loop-next.old.verdicts.items in
    let R : List (Option Plan) → Type 0 = λ ps. AreReady ps count in
    let parts : c.loop-next.plans.items ≡ front ++ Some plan ∷ [] =
    c.in-Some.ensures.items ∙ ap (λ o. front ++ o ∷ []) c.in-Some-next.is in
    let ready = subst R parts c.loop-next.invariant.ready in
    let more : length c.loop-next.plans.items ≡ length front + 1 = ap length parts ∙ length_push front (Some plan) in
    let all = map (planned (judgements_of c.args.old)) c.args.plans.items in
    let old = map Some (judgements_of c.loop-next.new) in
    let last = judgements_of c.loop-next.old in
    let W : List (Option Plan) → Type 0 = λ ps. map (planned last) ps ++ reverse old ≡ all in
    record {
      ready = subst (λ n. AreReady front n) (sym c.carry.ensures.count) (front_ready front plan count ready);
      old_each = c.carry.ensures.old_each;
      one_each = c.carry.ensures.one_each;
      room = c.carry.ensures.room (length front)
          (omega (arith, more, c.loop-next.invariant.room.0), omega (arith, more, c.loop-next.invariant.room.1));
      carried =
          carried_more all last (judgements_of c.carry.new.old) front plan old
          (map Some (judgements_of c.carry.new.new)) (left_by count plan)
          (subst W parts c.loop-next.invariant.carried) c.carry.ensures.left (front_within front plan count ready)
          c.carry.ensures.judged;
    }

pub loop-next-preserved : goal.loop-next-preserved
loop-next-preserved c =
    let front = c.pop.new.self.items in
    let count = length c.loop-next.old.verdicts.items in
    let R : List (Option Plan) → Type 0 = λ ps. AreReady ps count in
    absurd
    (last_made front count
    (subst R (c.in-Some.ensures.items ∙ ap (λ o. front ++ o ∷ []) c.in_default-next.is) c.loop-next.invariant.ready))

pub returns-clause-carried : goal.returns-clause-carried
returns-clause-carried c =
    let none : c.loop-next.plans.items ≡ [] =
    nil_from_length c.loop-next.plans.items (omega (arith, c.in_default.ensures.cases.0, c.loop-next.plans.ok.0)) in
    ap (map Some) c.turn_round.ensures.judged
    ∙ map-reverse Some (judgements_of c.loop-next.new)
    ∙ sym (ap (λ ps. map (planned (judgements_of c.loop-next.old)) ps ++ reverse (map Some (judgements_of c.loop-next.new))) none)
    ∙ c.loop-next.invariant.carried
