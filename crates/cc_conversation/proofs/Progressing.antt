-- What was said in whole items stands before what is said behind it.
use Rattle.std.proofs.Common.{◌≡◌, ◌≢◌, ◌⊎◌, inl, inr, ℕ, suc, ◌+◌, ◌≤◌, ◌<◌, Bool, true, false, List, [], ◌∷◌, ◌++◌, length, refl, sym, ap, subst, ◌∙◌, arith, append_assoc, append-nil, length-append}
use Rattle.std.specs.Prelude.{◌||◌}
use Rattle.cc_job.specs.declared.job.Command.{Command}
use Rattle.cc_job.specs.declared.job.Command.TheVariants.{Put, Drop, Check, Sig, Derive, Run, Tasks, Verify, Policy, Audit, Guard, Explain, Replay}
use Rattle.cc_job.specs.Jobs.{Item, Declares, Commands, item_lines, skipped}
use Rattle.cc_words.specs.Lines.{Line}
use Rattle.cc_conversation.specs.Conversations.{Moment, IsOpen, SaysAside, Standing, Rests, Says}
use Rattle.cc_item_reading.specs.Sayings.{aside_line}
use Rattle.cc_item_reading.specs.declared.asides.Aside.{Aside}
use Rattle.cc_item_reading.specs.declared.asides.Aside.TheVariants.{Live, Why}
use Rattle.cc_live.specs.LiveRuns.{Course}
use Rattle.cc_conversation.specs.Conversations.Says.{rests, begins, ends, exceeds, goes_on, runs, stops}
use Rattle.cc_conversation.specs.Progress.{HasSaid}
use Rattle.cc_conversation.specs.Progress.HasSaid.{nothing, blank, item, aside}

run_skips : {moment : Moment} {lines behind : List Line} {course : Course} → SaysAside moment lines behind course
    → SaysAside moment ([] ∷ lines) behind course
run_skips run = record { it = run.it; may = run.may; short = run.short; says = run.says; comes = run.comes }

-- an empty line says nothing
skips : {total : ℕ} {moment : Moment} {lines : List Line} {text : List ℕ} {refused : Bool} {standing : Standing}
    → Says total moment lines text refused standing → Says total moment ([] ∷ lines) text refused standing
skips (rests empty) = rests empty
skips (begins some lacks short) = begins some lacks short
skips (ends front bad rest place is before other none short at) = ends front bad rest place is before other none short at
skips (exceeds front next rest is before less long) = exceeds front next rest is before less long
skips (goes_on next others text rest refused later may is short answers said) = goes_on next others text rest refused later may is short answers said
skips (runs course host others text rest refused later run short same said) = runs course host others text rest refused later (run_skips run) short same said
skips (stops course host others text run short stands) = stops course host others text (run_skips run) short stands

-- no line of an item is skipped
pub skipped_item : (next : Item) (rest : List Line) → skipped (item_lines next ++ rest) ≡ item_lines next ++ rest
skipped_item (Declares device) rest = refl
skipped_item (Commands (Put name text)) rest = refl
skipped_item (Commands (Drop name)) rest = refl
skipped_item (Commands Check) rest = refl
skipped_item (Commands (Sig name)) rest = refl
skipped_item (Commands (Derive owner definition)) rest = refl
skipped_item (Commands (Run owner definition fuel)) rest = refl
skipped_item (Commands (Tasks fuel schedule entries)) rest = refl
skipped_item (Commands (Verify text)) rest = refl
skipped_item (Commands (Policy rules)) rest = refl
skipped_item (Commands (Audit owner definition)) rest = refl
skipped_item (Commands (Guard owner definition fuel)) rest = refl
skipped_item (Commands (Explain owner definition)) rest = refl
skipped_item (Commands (Replay owner definition fuel text)) rest = refl

-- nor is the line of what a job cannot say
pub skipped_aside : (it : Aside) (rest : List Line) → skipped (aside_line it ∷ rest) ≡ aside_line it ∷ rest
skipped_aside (Live owner definition fuel) rest = refl
skipped_aside (Why name) rest = refl

no_empty_item : (next : Item) (more : List Line) → item_lines next ≡ [] ∷ more → ⊥
no_empty_item (Declares device) more e = cc
no_empty_item (Commands (Put name text)) more e = cc
no_empty_item (Commands (Drop name)) more e = cc
no_empty_item (Commands Check) more e = cc
no_empty_item (Commands (Sig name)) more e = cc
no_empty_item (Commands (Derive owner definition)) more e = cc
no_empty_item (Commands (Run owner definition fuel)) more e = cc
no_empty_item (Commands (Tasks fuel schedule entries)) more e = cc
no_empty_item (Commands (Verify text)) more e = cc
no_empty_item (Commands (Policy rules)) more e = cc
no_empty_item (Commands (Audit owner definition)) more e = cc
no_empty_item (Commands (Guard owner definition fuel)) more e = cc
no_empty_item (Commands (Explain owner definition)) more e = cc
no_empty_item (Commands (Replay owner definition fuel text)) more e = cc

-- nor of lines with which one has begun
pub skipped_open : (moment : Moment) (front more : List Line) → front ≢ [] → IsOpen moment front → skipped (front ++ more) ≡ front ++ more
skipped_open moment [] more some lacks = absurd (some refl)
skipped_open moment ([] ∷ front) more some (next, line, missing, may, is) = absurd (no_empty_item next (front ++ line ∷ missing) is)
skipped_open moment ((byte ∷ line) ∷ front) more some lacks = refl

or_assoc : (a b c : Bool) → (a || b) || c ≡ a || (b || c)
or_assoc true b c = refl
or_assoc false b c = refl

pub or_false : (a : Bool) → (a || false) ≡ a
or_false true = refl
or_false false = refl

pub says_behind : {start now : Moment} {lines : List Line} {text : List ℕ} {refused : Bool} → HasSaid start lines text refused now
    → (total : ℕ) (rest : List Line) (more : List ℕ) (later : Bool) (standing : Standing) → Says total now rest more later standing
    → Says total start (lines ++ rest) (text ++ more) (refused || later) standing
says_behind nothing total rest more later standing said = said
says_behind {start = start} (blank {lines = lines} {text = text} {refused = refused} before) total rest more later standing said =
    subst (λ it. Says total start it (text ++ more) (refused || later) standing) (sym (append_assoc lines ([] ∷ []) rest))
    (says_behind before total ([] ∷ rest) more later standing (skips said))
says_behind {start = start} (item {lines = lines} {text = text} {refused = refused} next own second before may short answers) total rest more later standing said =
    let here = says_behind before total (item_lines next ++ rest) (own ++ more) (second || later) standing
    (goes_on next rest own more second later may (skipped_item next rest) short answers said) in
    subst (λ it. Says total start it ((text ++ own) ++ more) ((refused || second) || later) standing) (sym (append_assoc lines (item_lines next) rest))
    (subst (λ it. Says total start (lines ++ (item_lines next ++ rest)) it ((refused || second) || later) standing) (sym (append_assoc text own more))
    (subst (λ it. Says total start (lines ++ (item_lines next ++ rest)) (text ++ (own ++ more)) it standing) (sym (or_assoc refused second later)) here))
says_behind {start = start} (aside {lines = lines} {text = text} {refused = refused} it course host own second before may short comes shorts over) total rest more later standing said =
    let run : SaysAside _ (aside_line it ∷ (host ++ rest)) (host ++ rest) course =
    record { it = it; may = may; short = short; says = skipped_aside it (host ++ rest); comes = comes } in
    let here = says_behind before total (aside_line it ∷ (host ++ rest)) ((own ++ 10 ∷ []) ++ more) (second || later) standing
    (runs course host rest own more second later run shorts over said) in
    subst (λ it. Says total start it ((text ++ (own ++ 10 ∷ [])) ++ more) ((refused || second) || later) standing) (sym (append_assoc lines (aside_line it ∷ host) rest))
    (subst (λ t. Says total start (lines ++ (aside_line it ∷ (host ++ rest))) t ((refused || second) || later) standing) (sym (append_assoc text (own ++ 10 ∷ []) more))
    (subst (λ b. Says total start (lines ++ (aside_line it ∷ (host ++ rest))) (text ++ ((own ++ 10 ∷ []) ++ more)) b standing) (sym (or_assoc refused second later)) here))

-- the same where nothing is answered behind it
pub says_end : {start now : Moment} {lines : List Line} {text : List ℕ} {refused : Bool} → HasSaid start lines text refused now
    → (total : ℕ) (rest : List Line) (standing : Standing) → Says total now rest [] false standing
    → Says total start (lines ++ rest) text refused standing
says_end {start = start} {lines = lines} {text = text} {refused = refused} said total rest standing last =
    subst (λ it. Says total start (lines ++ rest) it refused standing) (append-nil text)
    (subst (λ it. Says total start (lines ++ rest) (text ++ []) it standing) (or_false refused)
    (says_behind said total rest [] false standing last))
