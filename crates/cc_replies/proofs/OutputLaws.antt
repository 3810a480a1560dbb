-- The commands of a job have one output.
use Rattle.std.proofs.Common.{◌≡◌, Bool, true, false, ◌||◌, [], ◌∷◌, ◌++◌, refl, sym, ap, subst, ◌∙◌, append_assoc}
use Rattle.cc_mnf.specs.ElaboratedModules.{device_names}
use Rattle.cc_replies.specs.ReplyTexts.{reply_text, is_refusal}
use Rattle.cc_replies.specs.Replies.{after}
use Rattle.cc_replies.specs.Outputs.{IsOutput, OutputsAreUnique}
use Rattle.cc_replies.specs.ReplyLaws.{OutputsExist, OutputsAreJoined}
use Rattle.cc_replies.proofs.PresentAfter.{texts_stay_present}
use Rattle.cc_replies.proofs.ReplyLaws.{replies_exist, replies_are_unique}

pub outputs_exist : OutputsExist
outputs_exist devices state [] differ sorted = ([], false, (refl, refl))
outputs_exist devices state (first ∷ others) differ sorted =
    let (reply, replies) = replies_exist devices state first differ sorted in
    let (rest, later, is) = outputs_exist devices (after state first) others differ (texts_stay_present state first sorted) in (
      reply_text (device_names devices) reply ++ rest,
      is_refusal reply || later,
      (reply, rest, later, replies, is, refl, refl),
    )

pub outputs_are_unique : OutputsAreUnique
outputs_are_unique devices state [] first second first_refused second_refused sorted a b =
    (a.0 ∙ sym b.0, a.1 ∙ sym b.1)
outputs_are_unique devices state (one ∷ others) first second first_refused second_refused sorted a b =
    let (reply, rest, later, replies, is, text, refused) = a in
    let (reply', rest', later', replies', is', text', refused') = b in
    let same = replies_are_unique devices state one reply reply' sorted replies replies' in
    let after_that = outputs_are_unique devices (after state one) others rest rest' later later' (texts_stay_present state one sorted) is is' in (
      text ∙ (λ i. reply_text (device_names devices) (same i) ++ after_that.0 i) ∙ sym text',
      refused ∙ (λ i. is_refusal (same i) || after_that.1 i) ∙ sym refused',
    )

grouped : (a b c : Bool) → ((a || b) || c) ≡ (a || (b || c))
grouped true b c = refl
grouped false b c = refl

pub outputs_are_joined : OutputsAreJoined
outputs_are_joined devices state [] back first second first_refused second_refused a b =
    subst (λ text. IsOutput devices state back (text ++ second) (first_refused || second_refused)) (sym a.0)
    (subst (λ refused. IsOutput devices state back second (refused || second_refused)) (sym a.1) b)
outputs_are_joined devices state (one ∷ others) back first second first_refused second_refused a b =
    let (reply, rest, later, replies, is, text, refused) = a in (
      reply,
      rest ++ second,
      later || second_refused,
      replies,
      outputs_are_joined devices (after state one) others back rest second later second_refused is b,
      ap (λ t. t ++ second) text ∙ append_assoc (reply_text (device_names devices) reply) rest second,
      ap (λ r. r || second_refused) refused ∙ grouped (is_refusal reply) later second_refused,
    )
