-- What comes of what a job cannot say is one, and steady.
use Rattle.std.proofs.Common.{◌≡◌, List, [], refl, sym, ap, subst, ◌∙◌}
use Rattle.cc_base.specs.declared.device.DeviceDecl.{DeviceDecl}
use Rattle.cc_hosting.proofs.OneCourse.{hosted_runs_are_one}
use Rattle.cc_hosting.proofs.SteadyCourses.{hosted_runs_are_steady}
use Rattle.cc_hosting.specs.CourseLaws.{IsSteady}
use Rattle.cc_item_reading.specs.declared.asides.Aside.{Aside}
use Rattle.cc_item_reading.specs.declared.asides.Aside.TheVariants as asides
use Rattle.cc_live.specs.LiveRuns.{Course}
use Rattle.cc_module_reasons.proofs.WhyAnswered.{why_has_one_answer}
use Rattle.cc_replies.specs.Requests.{JobState}
use Rattle.cc_verdicts.specs.PresentTexts.{ArePresent}
use Rattle.cc_conversation.specs.Conversations.{IsCourseOf, why_course}

pub courses_are_one : (devices : List DeviceDecl) (state : JobState) (it : Aside) (first second : Course) → ArePresent state.texts
    → IsCourseOf devices state it first → IsCourseOf devices state it second → first ≡ second
courses_are_one devices state (asides.Live owner definition fuel) first second present one other =
    hosted_runs_are_one devices state owner definition fuel first second present one other
courses_are_one devices state (asides.Why name) first second present (answer, is, same) (other, also, alike) =
    same ∙ ap (why_course name) (why_has_one_answer devices state.texts name answer other present is also) ∙ sym alike

pub courses_are_steady : (devices : List DeviceDecl) (state : JobState) (it : Aside) (course : Course)
    → IsCourseOf devices state it course → IsSteady course
courses_are_steady devices state (asides.Live owner definition fuel) course hosted =
    hosted_runs_are_steady devices state owner definition fuel course hosted
courses_are_steady devices state (asides.Why name) course (answer, is, same) =
    subst IsSteady (sym same) (record { more = λ lines more. refl; used = λ lines. ([], refl, refl) })
