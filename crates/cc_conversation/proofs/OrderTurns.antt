-- What is said and told of an order, from what its parts come to.
use Rattle.std.proofs.Common.{◌≡◌, ℕ, ◌≤◌, Bool, true, false, List, [], ◌∷◌, ◌++◌, length, Option, Some, None, Result, Ok, Err, refl, sym, ap, subst, ◌∙◌, arith, append_assoc, append-nil}
use Rattle.std.proofs.KnownBytes.{Appends-trans}
use Rattle.std.specs.Io.KnownBytes.{Appends}
use Rattle.std.specs.Prelude.{codes}
use Rattle.cc_answers.specs.Carried.{IsReplied}
use Rattle.cc_answers.specs.KeptEntries.{IsKeptFor}
use Rattle.cc_answers.specs.Requests.{request_of}
use Rattle.cc_answers.specs.declared.kept.Kept.{Kept}
use Rattle.cc_base.specs.declared.device.DeviceDecl.{DeviceDecl}
use Rattle.cc_hosting.specs.HostedRuns.{RunsHosted}
use Rattle.cc_io.proofs.PassedPieces.{front_first, front_second}
use Rattle.cc_io.specs.Wholes.{AppendsFront, WritesWhole}
use Rattle.cc_io.specs.declared.whole.ReadAll.{ReadAll}
use Rattle.cc_io.specs.declared.whole.WriteAll.{WriteAll}
use Rattle.cc_io.specs.declared.whole.WriteAll.TheVariants as write_errors
use Rattle.cc_job.specs.Jobs.{Commands, first_line}
use Rattle.cc_job.specs.declared.job.Command.{Command}
use Rattle.cc_line_reading.specs.LineReading.{Held, Hears, HearsNext}
use Rattle.cc_live.proofs.HeardLines.{no_memory_behind}
use Rattle.cc_live.specs.LiveEnds.{Listens, Tells, BeginsText, ComesTo, RunsLive}
use Rattle.cc_live.specs.LiveRuns.{Live as Told, Standing as LiveStanding, Over, Waits, Breaks, Course}
use Rattle.cc_live.specs.declared.running.LiveError.{LiveError}
use Rattle.cc_live.specs.declared.running.LiveError.TheVariants as live_errors
use Rattle.cc_mnf.specs.ElaboratedModules.{device_names}
use Rattle.cc_replies.proofs.PresentAfter.{texts_stay_present}
use Rattle.cc_replies.specs.Replies.{texts_after}
use Rattle.cc_replies.specs.ReplyTexts.{reply_text, is_refusal}
use Rattle.cc_replies.specs.Requests.{Request, JobState, holding_under}
use Rattle.cc_session.specs.Sessions.{SessionState}
use Rattle.cc_verdicts.specs.ModuleLaws.{NamesOfDevicesDiffer}
use Rattle.cc_verdicts.specs.PresentTexts.{ArePresent}
use Rattle.cc_words.specs.Lines.{Line}
use Rattle.cc_why.specs.WhyTexts.{why_text, TellsWhy}
use Rattle.cc_item_reading.proofs.Hearing.{hears_none}
use Rattle.cc_item_reading.specs.declared.asides.Aside.TheVariants as asides
use Rattle.cc_conversation.specs.Conversations.{Moment, spoken_reply, why_course}
use Rattle.cc_conversation.specs.Turns.{IsUnderWay, IsSaid, IsExplained, IsAsideTold, closed_as, closed, closed_course}
use Rattle.cc_conversation.specs.declared.saying.Conversation.{Conversation}

-- a reply and an empty line behind it
module _ (moment : Moment) (command : Command) (old between new : Option (List ℕ)) where
  pub said_whole : (refused : Bool) → IsReplied moment.devices moment.state (request_of command) old between (Ok refused)
      → Appends between new (10 ∷ []) → IsSaid moment command old new (Ok refused)
  said_whole refused replied feed = record {
    text = spoken_reply moment.devices replied.reply;
    refused = is_refusal replied.reply;
    answers = (replied.reply, replied.replies, refl, refl);
    written = Appends-trans old between new (reply_text (device_names moment.devices) replied.reply) (10 ∷ []) replied.written feed;
    told = replied.refused;
  }

  pub said_front : (error : WriteAll) → IsReplied moment.devices moment.state (request_of command) old new (Err error)
      → IsSaid moment command old new (Err error)
  said_front error replied = record {
    text = spoken_reply moment.devices replied.reply;
    refused = is_refusal replied.reply;
    answers = (replied.reply, replied.replies, refl, refl);
    written = longer error replied.written;
    told = tt;
  }
    where
      longer : (error : WriteAll) → WritesWhole {T = Bool} old new (Err error) (reply_text (device_names moment.devices) replied.reply)
          → WritesWhole {T = Bool} old new (Err error) (spoken_reply moment.devices replied.reply)
      longer write_errors.WriteFault front = front_first old new (reply_text (device_names moment.devices) replied.reply) (10 ∷ []) front
      longer write_errors.NoMemory front = front_first old new (reply_text (device_names moment.devices) replied.reply) (10 ∷ []) front

  pub said_without_feed : (refused : Bool) (error : WriteAll) → IsReplied moment.devices moment.state (request_of command) old between (Ok refused)
      → WritesWhole {T = Unit {0}} between new (Err error) (10 ∷ []) → IsSaid moment command old new (Err error)
  said_without_feed refused error replied feed = record {
    text = spoken_reply moment.devices replied.reply;
    refused = is_refusal replied.reply;
    answers = (replied.reply, replied.replies, refl, refl);
    written = longer error feed;
    told = tt;
  }
    where
      longer : (error : WriteAll) → WritesWhole {T = Unit {0}} between new (Err error) (10 ∷ [])
          → WritesWhole {T = Bool} old new (Err error) (spoken_reply moment.devices replied.reply)
      longer write_errors.WriteFault front = front_second old between new (reply_text (device_names moment.devices) replied.reply) (10 ∷ []) replied.written front
      longer write_errors.NoMemory front = front_second old between new (reply_text (device_names moment.devices) replied.reply) (10 ∷ []) replied.written front

-- a conversation is under way behind a command
pub under_way_behind : (old new : Conversation) (session : SessionState) (kept : Kept) (state : JobState) (request : Request) → IsUnderWay old
    → state.texts ≡ old.session.present → session.devices ≡ old.session.devices → session.present ≡ texts_after old.session.present request
    → IsKeptFor session.devices session.present kept → new.session ≡ session → new.kept ≡ kept → new.names ≡ old.names → IsUnderWay new
under_way_behind old new session kept state request way texts devices present is_kept same_session same_kept same_names =
    let own : new.session.devices ≡ old.session.devices = ap (λ (s : SessionState). s.devices) same_session ∙ devices in
    let after : ArePresent (texts_after old.session.present request) =
    subst (λ t. ArePresent (texts_after t request)) texts (texts_stay_present state request (subst ArePresent (sym texts) way.present)) in record {
      differ = subst NamesOfDevicesDiffer (sym own) way.differ;
      few = subst (λ d. length d ≤ 16) (sym own) way.few;
      present = subst ArePresent (sym (ap (λ (s : SessionState). s.present) same_session ∙ present)) after;
      kept = subst (λ (s : SessionState). IsKeptFor s.devices s.present new.kept) (sym same_session)
          (subst (λ k. IsKeptFor session.devices session.present k) (sym same_kept) is_kept);
      names = ap (λ n. n.names.items) same_names ∙ way.names ∙ ap device_names (sym own);
      locals = ap (λ n. n.locals) same_names ∙ way.locals;
    }

-- a course with an empty line behind it begins as it does without
begins_closed : (text told : List ℕ) (standing : LiveStanding) → (behind : List ℕ) × (told ≡ text ++ behind) → BeginsText text (closed_as standing told)
begins_closed text told (Over refused rest) (behind, is) = (behind ++ 10 ∷ [], ap (λ t. t ++ 10 ∷ []) is ∙ append_assoc text behind (10 ∷ []))
begins_closed text told Waits it = it
begins_closed text told (Breaks rest) it = it

comes_closed : (course : Course) (heard : List Line) (text : List ℕ) (error : LiveError) → ComesTo (course heard) text (Err error)
    → ComesTo (closed_course course heard) text (Err error)
comes_closed course heard text live_errors.ReadFault comes = ap closed comes
comes_closed course heard text live_errors.TooLong comes = ap closed comes
comes_closed course heard text live_errors.NoMemory comes = begins_closed text (course heard).text (course heard).standing comes
comes_closed course heard text live_errors.WriteFault comes = begins_closed text (course heard).text (course heard).standing comes
comes_closed course heard text live_errors.Ended comes = ap closed comes
comes_closed course heard text live_errors.BadLine comes = ap closed comes

module _ (moment : Moment) (owner definition : List ℕ) (fuel : ℕ) (old new : Held) (left later : Option (List ℕ)) (count counted : ℕ)
    (before between after : Option (List ℕ)) where
  -- a live run that came to no end
  pub played_stops : (error : LiveError)
      → RunsHosted moment.devices moment.state owner definition fuel old new left later count counted before after (Err error)
      → IsAsideTold moment (asides.Live owner definition fuel) old new left later count counted before after (Err error)
  played_stops error it = record {
    course = it.course;
    comes = it.hosted;
    runs = record {
      heard = it.runs.heard;
      within = it.runs.within;
      text = it.runs.text;
      listens = it.runs.listens;
      counts = it.runs.counts;
      tells = it.runs.tells;
      comes = comes_closed it.course it.runs.heard it.runs.text error it.runs.comes;
    };
  }

  module _ (refused : Bool)
      (it : RunsHosted moment.devices moment.state owner definition fuel old new left later count counted before between (Ok refused)) where
    closed_over : closed_course it.course it.runs.heard ≡ record { text = it.runs.text ++ 10 ∷ []; standing = Over refused [] }
    closed_over = ap closed it.runs.comes

    -- one that did, with an empty line behind it
    pub played_whole : Appends between after (10 ∷ []) → IsAsideTold moment (asides.Live owner definition fuel) old new left later count counted before after (Ok refused)
    played_whole feed = record {
      course = it.course;
      comes = it.hosted;
      runs = record {
        heard = it.runs.heard;
        within = it.runs.within;
        text = it.runs.text ++ 10 ∷ [];
        listens = it.runs.listens;
        counts = it.runs.counts;
        tells = Appends-trans before between after it.runs.text (10 ∷ []) it.runs.tells feed;
        comes = closed_over;
      };
    }

    -- or a failure to write that
    pub played_write_fault : AppendsFront between after (10 ∷ [])
        → IsAsideTold moment (asides.Live owner definition fuel) old new left later count counted before after (Err live_errors.WriteFault)
    played_write_fault feed = record {
      course = it.course;
      comes = it.hosted;
      runs = record {
        heard = it.runs.heard;
        within = it.runs.within;
        text = it.runs.text ++ 10 ∷ [];
        listens = it.runs.listens;
        counts = it.runs.counts;
        tells = front_second before between after it.runs.text (10 ∷ []) it.runs.tells feed;
        comes = ([], ap (λ (t : Told). t.text) closed_over ∙ sym (append-nil (it.runs.text ++ 10 ∷ [])));
      };
    }

    pub played_no_memory : AppendsFront between after (10 ∷ [])
        → IsAsideTold moment (asides.Live owner definition fuel) old new left later count counted before after (Err live_errors.NoMemory)
    played_no_memory feed = record {
      course = it.course;
      comes = it.hosted;
      runs = record {
        heard = it.runs.heard;
        within = it.runs.within;
        text = it.runs.text ++ 10 ∷ [];
        listens = no_memory_behind old new left later it.runs.heard it.runs.listens;
        counts = it.runs.counts;
        tells = front_second before between after it.runs.text (10 ∷ []) it.runs.tells feed;
        comes = ([], ap (λ (t : Told). t.text) closed_over ∙ sym (append-nil (it.runs.text ++ 10 ∷ [])));
      };
    }

-- the answer to a question, and an empty line behind it
module _ (moment : Moment) (name : List ℕ) (old between new : Option (List ℕ)) where
  pub explained : (refused : Bool) → TellsWhy moment.devices moment.state.texts name old between (Ok refused) → Appends between new (10 ∷ [])
      → IsExplained moment name old new (Ok refused)
  explained refused it feed = record {
    answer = it.answer;
    is = it.is;
    written = Appends-trans old between new (why_text name it.answer) (10 ∷ []) it.written feed;
    told = it.told;
  }

  pub explained_front : (error : WriteAll) → TellsWhy moment.devices moment.state.texts name old new (Err error)
      → IsExplained moment name old new (Err error)
  explained_front error it = record { answer = it.answer; is = it.is; written = longer error it.written; told = tt }
    where
      longer : (error : WriteAll) → WritesWhole {T = Bool} old new (Err error) (why_text name it.answer)
          → WritesWhole {T = Bool} old new (Err error) (why_text name it.answer ++ 10 ∷ [])
      longer write_errors.WriteFault front = front_first old new (why_text name it.answer) (10 ∷ []) front
      longer write_errors.NoMemory front = front_first old new (why_text name it.answer) (10 ∷ []) front

  pub explained_without_feed : (refused : Bool) (error : WriteAll) → TellsWhy moment.devices moment.state.texts name old between (Ok refused)
      → WritesWhole {T = Unit {0}} between new (Err error) (10 ∷ []) → IsExplained moment name old new (Err error)
  explained_without_feed refused error it feed = record { answer = it.answer; is = it.is; written = longer error feed; told = tt }
    where
      longer : (error : WriteAll) → WritesWhole {T = Unit {0}} between new (Err error) (10 ∷ [])
          → WritesWhole {T = Bool} old new (Err error) (why_text name it.answer ++ 10 ∷ [])
      longer write_errors.WriteFault front = front_second old between new (why_text name it.answer) (10 ∷ []) it.written front
      longer write_errors.NoMemory front = front_second old between new (why_text name it.answer) (10 ∷ []) it.written front

-- a conversation stays under way where its session has what it had
pub under_way_still : (it : Conversation) (session : SessionState) → IsUnderWay it → session.devices ≡ it.session.devices
    → session.present ≡ it.session.present → IsUnderWay (record { names = it.names; session = session; kept = it.kept; policy = it.policy })
under_way_still it session way devices present = record {
  differ = subst NamesOfDevicesDiffer (sym devices) way.differ;
  few = subst (λ d. length d ≤ 16) (sym devices) way.few;
  present = subst ArePresent (sym present) way.present;
  kept = subst (λ d. IsKeptFor d session.present it.kept) (sym devices)
      (subst (λ t. IsKeptFor it.session.devices t it.kept) (sym present) way.kept);
  names = way.names ∙ ap device_names (sym devices);
  locals = way.locals;
}

-- The answer to a question, for which no line of the host is taken.
module _ (moment : Moment) (name : List ℕ) (held : Held) (left : Option (List ℕ)) (count : ℕ) (before after : Option (List ℕ)) where
  abbrev IsQuestionTold : Result Bool LiveError → Type 0
  IsQuestionTold result = IsAsideTold moment (asides.Why name) held held left left count count before after result

  -- written whole
  pub told_whole : (refused : Bool) → IsExplained moment name before after (Ok refused) → IsQuestionTold (Ok refused)
  told_whole refused it = record {
    course = why_course name it.answer;
    comes = (it.answer, it.is, refl);
    runs = record {
      heard = [];
      within = tt;
      text = why_text name it.answer ++ 10 ∷ [];
      listens = hears_none held left;
      counts = omega arith;
      tells = it.written;
      comes = ap (λ so. record { text = why_text name it.answer ++ 10 ∷ []; standing = Over so [] }) (sym it.told);
    };
  }

  -- or a front of it
  pub told_write_fault : IsExplained moment name before after (Err write_errors.WriteFault) → IsQuestionTold (Err live_errors.WriteFault)
  told_write_fault it = record {
    course = why_course name it.answer;
    comes = (it.answer, it.is, refl);
    runs = record {
      heard = [];
      within = tt;
      text = why_text name it.answer ++ 10 ∷ [];
      listens = hears_none held left;
      counts = omega arith;
      tells = it.written;
      comes = ([], sym (append-nil (why_text name it.answer ++ 10 ∷ [])));
    };
  }

  pub told_no_memory : IsExplained moment name before after (Err write_errors.NoMemory) → IsQuestionTold (Err live_errors.NoMemory)
  told_no_memory it = record {
    course = why_course name it.answer;
    comes = (it.answer, it.is, refl);
    runs = record {
      heard = [];
      within = tt;
      text = why_text name it.answer ++ 10 ∷ [];
      listens = no_memory_behind held held left left [] (hears_none held left);
      counts = omega arith;
      tells = it.written;
      comes = ([], sym (append-nil (why_text name it.answer ++ 10 ∷ [])));
    };
  }

-- a line by its bytes with a line feed
no_rest : (ys : List ℕ) → [] ≡ ys ++ 10 ∷ [] → ⊥
no_rest [] e = cc
no_rest (y ∷ ys) e = cc

head_tail : {x y : ℕ} {xs ys : List ℕ} → x ∷ xs ≡ y ∷ ys → (x ≡ y) × (xs ≡ ys)
head_tail {x} {y} {xs} {ys} e = (cc, cc)

feed_same : (xs ys : List ℕ) → xs ++ 10 ∷ [] ≡ ys ++ 10 ∷ [] → xs ≡ ys
feed_same [] [] e = refl
feed_same [] (y ∷ ys) e = absurd (no_rest ys (head_tail e).1)
feed_same (x ∷ xs) [] e = absurd (no_rest xs (sym (head_tail e).1))
feed_same (x ∷ xs) (y ∷ ys) e = λ i. (head_tail e).0 i ∷ feed_same xs ys (head_tail e).1 i

pub first_heard : (old new : Held) (left later : Option (List ℕ)) (none line : List ℕ) (limit : ℕ) (so : Bool) → none ≡ [] → so ≡ true
    → HearsNext old new left later none line limit (Ok so) → line ≡ codes "capc 1\n" → Hears old new left later (first_line ∷ [])
first_heard old new left later none line limit so empty is heard spelled =
    let told = subst (λ b. HearsNext old new left later none line limit (Ok b)) is heard in
    let whole : told.0 ++ 10 ∷ [] ≡ first_line ++ 10 ∷ [] = sym (told.2 ∙ ap (λ t. t ++ (told.0 ++ 10 ∷ [])) empty) ∙ spelled in
    subst (λ l. Hears old new left later (l ∷ [])) (feed_same told.0 first_line whole) told.1
