-- The lines of a job are answered by its replies.
use Rattle.std.proofs.Common.{◌≡◌, ◌≤◌, ◌<◌, ◌+◌, ℕ, suc, Bool, true, false, List, [], ◌∷◌, ◌++◌, length, map, refl, sym, ap, subst, ◌∙◌, arith, append_assoc, append-nil, length-append}
use Rattle.std.specs.Prelude.{◌||◌, ◌==◌, if◌then◌else◌}
use Rattle.std.specs.List.{AllByRecursion, IsDistinct, flat_map}
use Rattle.std.specs.Str.{bytes_eq}
use Rattle.cc_base.specs.declared.device.DeviceDecl.{DeviceDecl}
use Rattle.cc_job.specs.declared.job.Command.{Command}
use Rattle.cc_job.specs.Jobs.{Item, Declares, Commands, AreItems, item_lines, skipped, first_line}
use Rattle.cc_words.specs.Lines.{Line, lines_of, before_first_line}
use Rattle.cc_mnf.specs.ElaboratedModules.{device_names}
use Rattle.cc_answers.specs.Requests.{request_of}
use Rattle.cc_replies.specs.Outputs.{IsOutput}
use Rattle.cc_replies.specs.ReplyTexts.{Reply, reply_text, is_refusal}
use Rattle.cc_replies.specs.Requests.{JobState, no_module}
use Rattle.cc_conversation.specs.Conversations.{IsWithoutAside, Moment, Says, IsSpoken, Rests, spoken_reply, behind}
use Rattle.cc_item_reading.specs.Sayings.{size, item_limit}
use Rattle.cc_conversation.specs.Conversations.Says.{rests, goes_on, runs, stops}
use Rattle.cc_conversation.specs.Conversations.IsSpoken.{opened}
use Rattle.cc_item_reading.proofs.Hearing.{size_both}
use Rattle.cc_conversation.specs.ConversationLaws.{JobsAreSpoken, RestingLinesAreAJob}

abbrev names_of : List DeviceDecl → List (List ℕ)
names_of devices = map (λ it. it.name) devices

-- the lines of an item have no more bytes than those that it stands before, and so have those behind it
skipped_size : (lines : List Line) → size (skipped lines) ≤ size lines
skipped_size [] = omega arith
skipped_size ([] ∷ lines) = let less = skipped_size lines in omega (arith, less)
skipped_size ((byte ∷ line) ∷ lines) = omega arith

item_size : (lines : List Line) (item : Item) (rest : List Line) → skipped lines ≡ item_lines item ++ rest
    → size (item_lines item) + size rest ≤ size lines
item_size lines item rest is =
    let all = skipped_size lines in
    omega (arith, all, ap size is, size_both (item_lines item) rest)

-- replies with this text answer the lines, each with an empty line behind it, where the devices are these at last
abbrev AnswersLines : ℕ → Moment → List DeviceDecl → List Line → List ℕ → Bool → Type 0
AnswersLines total moment devices lines text refused =
    (replies : List Reply) × (text ≡ flat_map (reply_text (device_names devices)) replies)
    × Says total moment lines (flat_map (spoken_reply devices) replies) refused Rests

-- commands are answered in turn, behind the devices
commands_said : (total : ℕ) (devices : List DeviceDecl) (begun : Bool) (state : JobState) (commands : List Command)
    (lines : List Line) (text : List ℕ) (refused : Bool) → AreItems lines (map Commands commands) → size lines ≤ item_limit
    → IsOutput devices state (map request_of commands) text refused
    → AnswersLines total (record { devices = devices; begun = begun; state = state }) devices lines text refused
commands_said total devices begun state [] lines text refused items short output =
    ([], output.0, subst (λ r. Says total (record { devices = devices; begun = begun; state = state }) lines [] r Rests) (sym output.1) (rests items))
commands_said total devices begun state (first ∷ others) lines text refused items short output =
    let now : Moment = record { devices = devices; begun = begun; state = state } in
    let (reply, rest, later, replies, more, is, refuses) = output in
    let room = item_size lines (Commands first) items.0 items.2 in
    let (told, joined, said) = commands_said total devices true (behind now (Commands first)).state others items.0 rest later items.3 (omega (arith, room, short)) more in
    let all : Says total now lines (spoken_reply devices reply ++ flat_map (spoken_reply devices) told) (is_refusal reply || later) Rests =
    goes_on (Commands first) items.0 (spoken_reply devices reply) (flat_map (spoken_reply devices) told) (is_refusal reply) later
    items.1 items.2 (omega (arith, room, short)) (reply, replies, refl, refl) said in (
      reply ∷ told,
      is ∙ ap (λ it. reply_text (device_names devices) reply ++ it) joined,
      subst (λ r. Says total now lines (spoken_reply devices reply ++ flat_map (spoken_reply devices) told) r Rests) (sym refuses) all,
    )

all_front : {K : Type 0} (holds : K → Type 0) (front rest : List K) → AllByRecursion holds (front ++ rest) → AllByRecursion holds front
all_front holds [] rest all = tt
all_front holds (first ∷ front) rest all = (all.0, all_front holds front rest all.1)

distinct_front : (front rest : List (List ℕ)) → IsDistinct bytes_eq (front ++ rest) → IsDistinct bytes_eq front
unfolding IsDistinct
distinct_front [] rest apart = tt
distinct_front (first ∷ front) rest apart =
    (all_front (λ it. bytes_eq first it ≡ false) front rest apart.0, distinct_front front rest apart.1)

names_append : (front rest : List DeviceDecl) → names_of (front ++ rest) ≡ names_of front ++ names_of rest
names_append [] rest = refl
names_append (first ∷ front) rest = ap (λ it. first.name ∷ it) (names_append front rest)

-- devices are declared in turn, and then the commands are answered
devices_said : (total : ℕ) (before later : List DeviceDecl) (commands : List Command) (lines : List Line) (text : List ℕ)
    (refused : Bool) → length (before ++ later) ≤ 16 → IsDistinct bytes_eq (names_of (before ++ later))
    → AreItems lines (map Declares later ++ map Commands commands) → size lines ≤ item_limit
    → IsOutput (before ++ later) no_module (map request_of commands) text refused
    → AnswersLines total (record { devices = before; begun = false; state = no_module }) (before ++ later) lines text refused
devices_said total before [] commands lines text refused few apart items short output =
    subst (λ it. AnswersLines total (record { devices = before; begun = false; state = no_module }) it lines text refused) (sym (append-nil before))
    (commands_said total before false no_module commands lines text refused items short
    (subst (λ it. IsOutput it no_module (map request_of commands) text refused) (append-nil before) output))
devices_said total before (device ∷ later) commands lines text refused few apart items short output =
    let now : Moment = record { devices = before; begun = false; state = no_module } in
    let room = item_size lines (Declares device) items.0 items.2 in
    let joined : (before ++ device ∷ []) ++ later ≡ before ++ device ∷ later = append_assoc before (device ∷ []) later in
    let one : length before < 16 = omega (arith, few, length-append before (device ∷ later)) in
    let own : IsDistinct bytes_eq (names_of (before ++ device ∷ [])) =
    distinct_front (names_of (before ++ device ∷ [])) (names_of later)
    (subst (λ it. IsDistinct bytes_eq it) (names_append (before ++ device ∷ []) later)
    (subst (λ it. IsDistinct bytes_eq (names_of it)) (sym joined) apart)) in
    let (told, is, said) = devices_said total (before ++ device ∷ []) later commands items.0 text refused
    (subst (λ it. length it ≤ 16) (sym joined) few)
    (subst (λ it. IsDistinct bytes_eq (names_of it)) (sym joined) apart) items.3 (omega (arith, room, short))
    (subst (λ it. IsOutput it no_module (map request_of commands) text refused) (sym joined) output) in
    subst (λ it. AnswersLines total now it lines text refused) joined (
      told,
      is,
      goes_on (Declares device) items.0 [] (flat_map (spoken_reply ((before ++ device ∷ []) ++ later)) told) false refused
          (items.1, record { early = refl; few = one; names = own }) items.2 (omega (arith, room, short)) (refl, refl) said,
    )

-- lines have as many bytes as the text that they are of, or one more
lines_size : (bytes : List ℕ) → size (lines_of bytes) ≤ length bytes + 1
lines_size [] = omega arith
lines_size (byte ∷ bytes) = at (byte == 10) (lines_of bytes) (lines_size bytes)
  where
    at : (ends : Bool) (lines : List Line) → size lines ≤ length bytes + 1
        → size (if ends then [] ∷ lines else before_first_line byte lines) ≤ length (byte ∷ bytes) + 1
    at true lines short = omega (arith, short)
    at false [] short = omega arith
    at false (line ∷ lines) short = omega (arith, short)

pub jobs_are_spoken : JobsAreSpoken
jobs_are_spoken bytes job is few text refused output =
    let all = lines_size bytes in
    let room : size is.behind ≤ item_limit = omega (arith, few, all, ap size is.begins, size_both (first_line ∷ []) is.behind) in
    let (told, joined, said) = devices_said (suc (length is.behind)) [] job.devices job.commands is.behind text refused is.few is.names is.items room output in
    (told, joined, subst (λ lines. IsSpoken lines (flat_map (spoken_reply job.devices) told) refused Rests) (sym is.begins) (opened said))

-- What is left of a job whose lines rest: further devices, none where a command was given, and commands.
record Rested (moment : Moment) (lines : List Line) : Type 0 where
  devices : List DeviceDecl
  commands : List Command
  items : AreItems lines (map Declares devices ++ map Commands commands)
  none : moment.begun ≡ true → devices ≡ []
  few : length (moment.devices ++ devices) ≤ 16
  names : IsDistinct bytes_eq (names_of (moment.devices ++ devices))

rested : {total : ℕ} {moment : Moment} {lines : List Line} {text : List ℕ} {refused : Bool} → length moment.devices ≤ 16
    → IsDistinct bytes_eq (names_of moment.devices) → (said : Says total moment lines text refused Rests) → IsWithoutAside said → Rested moment lines
rested {moment = moment} few apart (rests empty) without = record {
  devices = [];
  commands = [];
  items = empty;
  none = λ begun. refl;
  few = subst (λ it. length it ≤ 16) (sym (append-nil moment.devices)) few;
  names = subst (λ it. IsDistinct bytes_eq (names_of it)) (sym (append-nil moment.devices)) apart;
}
rested {moment = moment} few apart (goes_on (Declares device) others text rest refused later may is short answers said) without =
    let own : length (moment.devices ++ device ∷ []) ≤ 16 =
    omega (arith, may.1.few, length-append moment.devices (device ∷ [])) in
    let behind_it = rested own may.1.names said without in
    let joined = append_assoc moment.devices (device ∷ []) behind_it.devices in record {
      devices = device ∷ behind_it.devices;
      commands = behind_it.commands;
      items = (others, may.0, is, behind_it.items);
      none = λ begun. let early : true ≡ false = sym begun ∙ may.1.early in cc;
      few = subst (λ it. length it ≤ 16) joined behind_it.few;
      names = subst (λ it. IsDistinct bytes_eq (names_of it)) joined behind_it.names;
    }
rested {moment = moment} few apart (goes_on (Commands command) others text rest refused later may is short answers said) without =
    let behind_it = rested few apart said without in
    let none = behind_it.none refl in record {
      devices = [];
      commands = command ∷ behind_it.commands;
      items = (others, may, is, subst (λ it. AreItems others (map Declares it ++ map Commands behind_it.commands)) none behind_it.items);
      none = λ begun. refl;
      few = subst (λ it. length (moment.devices ++ it) ≤ 16) none behind_it.few;
      names = subst (λ it. IsDistinct bytes_eq (names_of (moment.devices ++ it))) none behind_it.names;
    }
rested few apart (runs course host others text rest refused later run short over said) without = absurd without
rested few apart (stops course host others text run short stands) without = absurd without

pub resting_lines_are_a_job : RestingLinesAreAJob
unfolding IsDistinct
resting_lines_are_a_job lines text refused said without =
    let it = rested (omega arith) tt said without in
    (record { devices = it.devices; commands = it.commands }, it.items, it.few, it.names)
