-- One turn of asking for a line: a part of it was taken.
use Rattle.std.proofs.Common.{◌≡◌, ◌⊎◌, inl, inr, ℕ, ◌+◌, ◌≤◌, ◌<◌, Bool, true, false, List, [], ◌∷◌, ◌++◌, length, Option, Some, None, Ok, Err, IsTrue, refl, sym, ap, subst, ◌∙◌, arith, append_assoc, append-nil, length-append}
use Rattle.std.specs.Io.KnownBytes.{Consumes, IsAtEnd}
use Rattle.cc_words.specs.Words.{cut_at}
use Rattle.cc_words.proofs.Steps.{Lacks-append}
use Rattle.cc_words.proofs.Splits.{cut_at_none}
use Rattle.cc_words.specs.Lines.{lines_of}
use Rattle.cc_words.proofs.LineLists.{lines_of-append, lines_of-last, is_whole-append}
use Rattle.cc_io.specs.declared.whole.ReadAll.{ReadAll}
use Rattle.cc_io.specs.declared.whole.ReadAll.TheVariants as read_errors
use Rattle.cc_line_reading.specs.LineReading.{Held, Takes, IsOver, IsDrained, HearsNext, PutsFront, HasMore, ReadsAsNeeded}
use Rattle.cc_line_reading.proofs.LineFronts.{cut_lacking}

-- What was consumed in two parts.
pub consumed_both : (left between later : Option (List ℕ)) (first second : List ℕ) → Consumes left between first
    → Consumes between later second → Consumes left later (first ++ second)
consumed_both None between later first second a b = tt
consumed_both (Some xs) None later first second a b = absurd a
consumed_both (Some xs) (Some ys) None first second a b = absurd b
consumed_both (Some xs) (Some ys) (Some zs) first second a b = a ∙ ap (λ it. first ++ it) b ∙ sym (append_assoc first second zs)

consumed_none : (left : Option (List ℕ)) → Consumes left left []
consumed_none None = tt
consumed_none (Some xs) = refl

-- A part of a line without a line feed was taken and stands behind what stood there, within the limit; the source was read
-- as needed.
pub record Turning (old now : Held) (left later : Option (List ℕ)) (before line : List ℕ) (limit : ℕ) : Type 0 where
  pub part : List ℕ
  pub takes : Takes old now left later part
  pub no_feed : cut_at 10 part ≡ None
  pub put : line ≡ before ++ part
  pub short : length line ≤ limit
  pub room : (part ≡ []) ⊎ (length line < limit)
  pub needed : ReadsAsNeeded old left later
  pub stays : IsTrue old.ended → IsTrue now.ended

pub begins : (old : Held) (left : Option (List ℕ)) (line : List ℕ) (limit : ℕ) → length line ≤ limit
    → Turning old old left left line line limit
begins old left line limit short = record {
  part = [];
  takes = record { read = []; consumed = consumed_none left; parts = append-nil old.bytes; quiet = λ h. refl };
  no_feed = refl;
  put = sym (append-nil line);
  short = short;
  room = inl refl;
  needed = record { earlier = []; last = []; consumed = consumed_none left; needed = inl refl; small = omega arith };
  stays = λ h. h;
}

no_feed_both : (part more : List ℕ) → cut_at 10 part ≡ None → cut_at 10 more ≡ None → cut_at 10 (part ++ more) ≡ None
no_feed_both part more a b = cut_lacking 10 (part ++ more) (Lacks-append 10 part more (cut_at_none 10 part a) (cut_at_none 10 more b))

-- all that is held was taken too
pub took_all : (old now new : Held) (left later : Option (List ℕ)) (before line put : List ℕ) (limit : ℕ)
    → Turning old now left later before line limit → cut_at 10 now.bytes ≡ None → new.bytes ≡ [] → put ≡ line ++ now.bytes
    → length line + length now.bytes < limit → new.ended ≡ now.ended → Turning old new left later before put limit
took_all old now new left later before line put limit turning feed none is short ended = record {
  part = turning.part ++ now.bytes;
  takes = record {
    read = turning.takes.read;
    consumed = turning.takes.consumed;
    parts = turning.takes.parts ∙ sym (append-nil (turning.part ++ now.bytes)) ∙ ap (λ it. (turning.part ++ now.bytes) ++ it) (sym none);
    quiet = turning.takes.quiet;
  };
  no_feed = no_feed_both turning.part now.bytes turning.no_feed feed;
  put = is ∙ ap (λ it. it ++ now.bytes) turning.put ∙ append_assoc before turning.part now.bytes;
  short = omega (arith, ap length is, length-append line now.bytes, short);
  room = inr (omega (arith, ap length is, length-append line now.bytes, short));
  needed = turning.needed;
  stays = λ h. subst IsTrue (sym ended) (turning.stays h);
}

-- nothing more was read
pub read_nothing : (old now : Held) (left later last : Option (List ℕ)) (before line : List ℕ) (limit : ℕ)
    → Turning old now left later before line limit → Consumes later last [] → Turning old now left last before line limit
read_nothing old now left later last before line limit turning none =
    let more = λ (read : List ℕ) (c : Consumes left later read). subst (Consumes left last) (append-nil read) (consumed_both left later last read [] c none) in
    record {
      part = turning.part;
      takes = record {
        read = turning.takes.read;
        consumed = more turning.takes.read turning.takes.consumed;
        parts = turning.takes.parts;
        quiet = turning.takes.quiet;
      };
      no_feed = turning.no_feed;
      put = turning.put;
      short = turning.short;
      room = turning.room;
      needed = record {
        earlier = turning.needed.earlier;
        last = turning.needed.last;
        consumed = more (turning.needed.earlier ++ turning.needed.last) turning.needed.consumed;
        needed = turning.needed.needed;
        small = turning.needed.small;
      };
      stays = turning.stays;
    }

-- a piece was read, where nothing was held
pub read_piece : (old now new : Held) (left later last : Option (List ℕ)) (before line piece : List ℕ) (limit : ℕ)
    → Turning old now left later before line limit → now.bytes ≡ [] → Consumes later last piece → length piece ≤ 4096
    → now.ended ≡ false → (new.bytes ≡ piece) → Turning old new left last before line limit
read_piece old now new left later last before line piece limit turning none more small running is =
    let all : old.bytes ++ turning.takes.read ≡ turning.part = turning.takes.parts ∙ ap (λ it. turning.part ++ it) none ∙ append-nil turning.part in
    let consumed = consumed_both left later last turning.takes.read piece turning.takes.consumed more in
    let never : IsTrue old.ended → ⊥ = λ h. let clash = turning.stays h in cc in
    record {
      part = turning.part;
      takes = record {
        read = turning.takes.read ++ piece;
        consumed = consumed;
        parts = sym (append_assoc old.bytes turning.takes.read piece) ∙ ap (λ it. it ++ piece) all ∙ ap (λ it. turning.part ++ it) (sym is);
        quiet = λ h. absurd (never h);
      };
      no_feed = turning.no_feed;
      put = turning.put;
      short = turning.short;
      room = turning.room;
      needed = record {
        earlier = turning.takes.read;
        last = piece;
        consumed = consumed;
        needed = inr (ap (cut_at 10) all ∙ turning.no_feed);
        small = small;
      };
      stays = λ h. absurd (never h);
    }

-- what was read with a piece more was needed, where all that is held was taken before
pub needed_piece : (old now : Held) (left later last : Option (List ℕ)) (before line piece : List ℕ) (limit : ℕ)
    → Turning old now left later before line limit → now.bytes ≡ [] → Consumes later last piece → length piece ≤ 4096
    → ReadsAsNeeded old left last
needed_piece old now left later last before line piece limit turning none more small = record {
  earlier = turning.takes.read;
  last = piece;
  consumed = consumed_both left later last turning.takes.read piece turning.takes.consumed more;
  needed = inr (ap (cut_at 10) (turning.takes.parts ∙ ap (λ it. turning.part ++ it) none ∙ append-nil turning.part) ∙ turning.no_feed);
  small = small;
}

-- more is held, or a piece was read
more_came_so : (old now new : Held) (left later last : Option (List ℕ)) (before line : List ℕ) (limit : ℕ)
    → Turning old now left later before line limit → HasMore now new later last (Ok true)
    → Turning old new left last before line limit
more_came_so old now new left later last before line limit turning (inl held) =
    let same = read_nothing old now left later last before line limit turning held.3 in
    subst (λ it. Turning old it left last before line limit) (sym held.2) same
more_came_so old now new left later last before line limit turning (inr read) =
    read_piece old now new left later last before line new.bytes limit turning read.0 read.1.0 read.1.2 read.1.3 refl

-- nothing more came
pub record Stopped (old new : Held) (left last : Option (List ℕ)) (before line : List ℕ) (limit : ℕ) : Type 0 where
  pub turning : Turning old new left last before line limit
  pub over : IsOver new
  pub at_end : IsAtEnd last

none_came_so : (old now new : Held) (left later last : Option (List ℕ)) (before line : List ℕ) (limit : ℕ)
    → Turning old now left later before line limit → HasMore now new later last (Ok false)
    → Stopped old new left last before line limit
none_came_so old now new left later last before line limit turning (inl held) = cc
none_came_so old now new left later last before line limit turning (inr read) =
    let same = read_nothing old now left later last before line limit turning read.1.0 in
    record {
      turning = record {
        part = same.part;
        takes = record {
          read = same.takes.read;
          consumed = same.takes.consumed;
          parts = same.takes.parts ∙ ap (λ it. same.part ++ it) (read.0 ∙ sym read.1.2.1);
          quiet = same.takes.quiet;
        };
        no_feed = same.no_feed;
        put = same.put;
        short = same.short;
        room = same.room;
        needed = same.needed;
        stays = λ h. read.1.2.0;
      };
      over = read.1.2;
      at_end = read.1.1;
    }

-- reading failed
pub more_failed : (old now new : Held) (left later last : Option (List ℕ)) (before line : List ℕ) (limit : ℕ) (error : ReadAll)
    → Turning old now left later before line limit → HasMore now new later last (Err error)
    → HearsNext old new left last before line limit (Err error) × ReadsAsNeeded old left last
more_failed old now new left later last before line limit error turning (inl held) = cc
more_failed old now new left later last before line limit read_errors.ReadFault turning (inr read) =
    let same = read_nothing old now left later last before line limit turning read.1.0 in
    let moved = subst (λ it. Turning old it left last before line limit) (sym read.1.1) same in
    let drained : IsDrained new = (ap (λ it. it.bytes) read.1.1 ∙ read.0, ap (λ it. it.ended) read.1.1 ∙ read.1.2) in
    ((moved.part, record { takes = moved.takes; no_feed = moved.no_feed; stays = moved.stays }, drained), moved.needed)
more_failed old now new left later last before line limit read_errors.TooLong turning (inr read) = absurd read.1
more_failed old now new left later last before line limit read_errors.NoMemory turning (inr read) = (
  (turning.takes.read ++ read.1.0, consumed_both left later last turning.takes.read read.1.0 turning.takes.consumed read.1.1),
  needed_piece old now left later last before line read.1.0 limit turning read.0 read.1.1 read.1.2,
)

-- taking the front failed
pub front_failed : (old now new : Held) (left later : Option (List ℕ)) (before line put : List ℕ) (limit : ℕ) (error : ReadAll)
    → Turning old now left later before line limit → PutsFront now new line put limit (Err error)
    → HearsNext old new left later before put limit (Err error)
front_failed old now new left later before line put limit read_errors.ReadFault turning fails = absurd fails
front_failed old now new left later before line put limit read_errors.TooLong turning (front, rest, feed, is, over) = (
  turning.part ++ front,
  record { bytes = rest; ended = now.ended },
  record {
    takes = record {
      read = turning.takes.read;
      consumed = turning.takes.consumed;
      parts = turning.takes.parts ∙ ap (λ it. turning.part ++ it) is ∙ sym (append_assoc turning.part front rest);
      quiet = turning.takes.quiet;
    };
    no_feed = no_feed_both turning.part front turning.no_feed feed;
    stays = turning.stays;
  },
  omega (arith, ap length turning.put, length-append before turning.part, length-append turning.part front, over),
)
front_failed old now new left later before line put limit read_errors.NoMemory turning fails =
    (turning.takes.read, turning.takes.consumed)

-- a whole line was taken
front_whole_so : (old now new : Held) (left later : Option (List ℕ)) (before line put : List ℕ) (limit : ℕ)
    → Turning old now left later before line limit → PutsFront now new line put limit (Ok true) → new.ended ≡ now.ended
    → HearsNext old new left later before put limit (Ok true)
front_whole_so old now new left later before line put limit turning (front, feed, split, is, short) ended =
    let text = turning.part ++ front in
    let lacks = cut_at_none 10 text (no_feed_both turning.part front turning.no_feed feed) in (
      text,
      record {
        bytes = text ++ 10 ∷ [];
        takes = record {
          read = turning.takes.read;
          consumed = turning.takes.consumed;
          parts = turning.takes.parts ∙ ap (λ it. turning.part ++ it) split ∙ sym (append_assoc turning.part front (10 ∷ new.bytes))
              ∙ sym (append_assoc text (10 ∷ []) new.bytes);
          quiet = turning.takes.quiet;
        };
        are = lines_of-append text [] lacks;
        whole = inl (ap (λ it. it) (is_whole-append true text []));
        stays = λ h. subst IsTrue (sym ended) (turning.stays h);
      },
      is ∙ ap (λ it. (it ++ front) ++ 10 ∷ []) turning.put ∙ ap (λ it. it ++ 10 ∷ []) (append_assoc before turning.part front)
          ∙ append_assoc before text (10 ∷ []),
      omega (arith, ap length is, length-append (line ++ front) (10 ∷ []), length-append line front, short),
    )

no_length : (bytes : List ℕ) → length bytes ≡ 0 → bytes ≡ []
no_length [] e = refl
no_length (b ∷ bytes) e = absurd (omega arith)

one_line : (part : List ℕ) → cut_at 10 part ≡ None → (part ≡ [] → ⊥) → lines_of part ≡ part ∷ []
one_line [] feed some = absurd (some refl)
one_line (b ∷ bs) feed some = lines_of-last b bs (cut_at_none 10 (b ∷ bs) feed)

-- at the end nothing is left
pub no_line_left : (old new : Held) (left later : Option (List ℕ)) (before line : List ℕ) (limit : ℕ)
    → Stopped old new left later before line limit → length line ≡ length before
    → HearsNext old new left later before line limit (Ok false)
no_line_left old new left later before line limit stopped same =
    let empty = no_length stopped.turning.part (omega (arith, ap length stopped.turning.put, length-append before stopped.turning.part, same)) in (
      record {
        bytes = [];
        takes = subst (Takes old new left later) empty stopped.turning.takes;
        are = refl;
        whole = inl refl;
        stays = stopped.turning.stays;
      },
      stopped.over,
      stopped.at_end,
      stopped.turning.put ∙ ap (λ it. before ++ it) empty ∙ append-nil before,
    )

-- or a line without its line feed is
pub last_line : (old new : Held) (left later : Option (List ℕ)) (before line put : List ℕ) (limit : ℕ)
    → Stopped old new left later before line limit → (length line ≡ length before → ⊥) → put ≡ line ++ 10 ∷ []
    → HearsNext old new left later before put limit (Ok true)
last_line old new left later before line put limit stopped more is =
    let turning = stopped.turning in (
      turning.part,
      record {
        bytes = turning.part;
        takes = turning.takes;
        are = one_line turning.part turning.no_feed (λ empty. more (omega (arith, ap length turning.put, length-append before turning.part, ap length empty)));
        whole = inr stopped.over;
        stays = turning.stays;
      },
      is ∙ ap (λ it. it ++ 10 ∷ []) turning.put ∙ append_assoc before turning.part (10 ∷ []),
      elim turning.room [
        | inl empty ↦ absurd (more (omega (arith, ap length turning.put, length-append before turning.part, ap length empty)))
        | inr room ↦ omega (arith, ap length is, length-append line (10 ∷ []), room)
      ],
    )

-- the same of what was told
pub more_came : (old now new : Held) (left later last : Option (List ℕ)) (before line : List ℕ) (limit : ℕ) (told : Bool)
    → Turning old now left later before line limit → told ≡ true → HasMore now new later last (Ok told)
    → Turning old new left last before line limit
more_came old now new left later last before line limit told turning is came =
    more_came_so old now new left later last before line limit turning (subst (λ it. HasMore now new later last (Ok it)) is came)

pub none_came : (old now new : Held) (left later last : Option (List ℕ)) (before line : List ℕ) (limit : ℕ) (told : Bool)
    → Turning old now left later before line limit → told ≡ false → HasMore now new later last (Ok told)
    → Stopped old new left last before line limit
none_came old now new left later last before line limit told turning is came =
    none_came_so old now new left later last before line limit turning (subst (λ it. HasMore now new later last (Ok it)) is came)

pub front_whole : (old now new : Held) (left later : Option (List ℕ)) (before line put : List ℕ) (limit : ℕ) (told : Bool)
    → Turning old now left later before line limit → told ≡ true → PutsFront now new line put limit (Ok told)
    → new.ended ≡ now.ended → HearsNext old new left later before put limit (Ok true)
front_whole old now new left later before line put limit told turning is puts ended =
    front_whole_so old now new left later before line put limit turning (subst (λ it. PutsFront now new line put limit (Ok it)) is puts) ended

pub front_taken : (old now new : Held) (left later : Option (List ℕ)) (before line put : List ℕ) (limit : ℕ) (told : Bool)
    → Turning old now left later before line limit → told ≡ false → PutsFront now new line put limit (Ok told)
    → new.ended ≡ now.ended → Turning old new left later before put limit
front_taken old now new left later before line put limit told turning is puts ended =
    let so = subst (λ it. PutsFront now new line put limit (Ok it)) is puts in
    took_all old now new left later before line put limit turning so.0 so.1 so.2 so.3 ended
