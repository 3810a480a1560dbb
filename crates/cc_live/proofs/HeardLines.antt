-- Lines that are taken one behind the other.
use Rattle.std.proofs.Common.{◌≡◌, ◌⊎◌, inl, inr, ℕ, ◌+◌, Bool, true, List, [], ◌∷◌, ◌++◌, length, Option, Some, None, Result, Ok, Err, refl, sym, ap, ◌∙◌, arith, append_assoc, append-nil, length-append}
use Rattle.std.specs.Io.KnownBytes.{Consumes}
use Rattle.cc_io.specs.declared.whole.ReadAll.{ReadAll}
use Rattle.cc_io.specs.declared.whole.ReadAll.TheVariants as read_errors
use Rattle.cc_line_reading.proofs.LineTurns.{consumed_both}
use Rattle.cc_line_reading.specs.LineReading.{Held, Takes, IsOver, Hears}
use Rattle.cc_live.specs.LiveEnds.{HearsAndFails, Listens}
use Rattle.cc_live.specs.declared.running.LiveError.{LiveError}
use Rattle.cc_live.specs.declared.running.LiveError.TheVariants as errors
use Rattle.cc_words.proofs.LineLists.{lines_of-terminated, is_whole-terminated, terminated-lines_of, lines-lack, back_empty}
use Rattle.cc_words.specs.Lines.{Line, lines_of, is_whole_behind, AreWholeLines}

consumed_none : (left : Option (List ℕ)) → Consumes left left []
consumed_none None = tt
consumed_none (Some xs) = refl

-- no line
pub hears_nothing : (held : Held) (left : Option (List ℕ)) → Hears held held left left []
hears_nothing held left = record {
  bytes = [];
  takes = record { read = []; consumed = consumed_none left; parts = append-nil held.bytes; quiet = λ h. refl };
  are = refl;
  whole = inl refl;
  stays = λ h. h;
}

-- lines behind whole ones
lines_behind : (front back : List ℕ) → AreWholeLines front → lines_of (front ++ back) ≡ lines_of front ++ lines_of back
lines_behind front back whole =
    ap (λ t. lines_of (t ++ back)) (sym (terminated-lines_of front whole)) ∙ lines_of-terminated (lines_of front) back (lines-lack front)

whole_behind : (front back : List ℕ) → AreWholeLines front → AreWholeLines back → AreWholeLines (front ++ back)
whole_behind front back whole more =
    ap (λ t. is_whole_behind true (t ++ back)) (sym (terminated-lines_of front whole)) ∙ is_whole-terminated (lines_of front) back ∙ more

front_empty : (front back : List ℕ) → [] ≡ front ++ back → front ≡ []
front_empty [] back e = refl
front_empty (b ∷ front) back e = cc

none_both : (first second : List ℕ) → first ≡ [] → second ≡ [] → first ++ second ≡ []
none_both first second a b = ap (λ t. t ++ second) a ∙ b

module _ (a b c : Held) (left between later : Option (List ℕ)) (first second : List Line) (x : Hears a b left between first) (y : Hears b c between later second) where
  takes_both : Takes a c left later (x.bytes ++ y.bytes)
  takes_both = record {
    read = x.takes.read ++ y.takes.read;
    consumed = consumed_both left between later x.takes.read y.takes.read x.takes.consumed y.takes.consumed;
    parts = sym (append_assoc a.bytes x.takes.read y.takes.read) ∙ ap (λ t. t ++ y.takes.read) x.takes.parts ∙ append_assoc x.bytes b.bytes y.takes.read
        ∙ ap (λ t. x.bytes ++ t) y.takes.parts ∙ sym (append_assoc x.bytes y.bytes c.bytes);
    quiet = λ h. none_both x.takes.read y.takes.read (x.takes.quiet h) (y.takes.quiet (x.stays h));
  }

  by_end : AreWholeLines x.bytes ⊎ IsOver b → Hears a c left later (first ++ second)
  by_end (inl whole) = record {
    bytes = x.bytes ++ y.bytes;
    takes = takes_both;
    are = lines_behind x.bytes y.bytes whole ∙ ap (λ t. t ++ lines_of y.bytes) x.are ∙ ap (λ t. first ++ t) y.are;
    whole = whole_too y.whole;
    stays = λ h. y.stays (x.stays h);
  }
    where
      whole_too : AreWholeLines y.bytes ⊎ IsOver c → AreWholeLines (x.bytes ++ y.bytes) ⊎ IsOver c
      whole_too (inl more) = inl (whole_behind x.bytes y.bytes whole more)
      whole_too (inr over) = inr over
  by_end (inr over) =
      let none : [] ≡ y.bytes ++ c.bytes = sym (none_both b.bytes y.takes.read over.1 (y.takes.quiet over.0)) ∙ y.takes.parts in
      let empty : y.bytes ≡ [] = front_empty y.bytes c.bytes none in
      let no_line : second ≡ [] = sym y.are ∙ ap lines_of empty in
      record {
        bytes = x.bytes ++ y.bytes;
        takes = takes_both;
        are = ap (λ t. lines_of (x.bytes ++ t)) empty ∙ ap lines_of (append-nil x.bytes) ∙ x.are ∙ sym (append-nil first) ∙ ap (λ t. first ++ t) (sym no_line);
        whole = inr (y.stays over.0, back_empty y.bytes c.bytes (sym none));
        stays = λ h. y.stays (x.stays h);
      }

  pub hears_both : Hears a c left later (first ++ second)
  hears_both = by_end x.whole

fails_behind : (a b c : Held) (left between later : Option (List ℕ)) (first second : List Line) (error : ReadAll) → Hears a b left between first
    → HearsAndFails b c between later second error → HearsAndFails a c left later (first ++ second) error
fails_behind a b c left between later first second error x y = record {
  between = y.between;
  rest = y.rest;
  first = hears_both a b y.between left between y.rest first second x y.first;
  fails = y.fails;
}

-- and what is heard at an error
pub listens_behind : (a b c : Held) (left between later : Option (List ℕ)) (first second : List Line) (result : Result Bool LiveError) → Hears a b left between first
    → Listens b c between later second result → Listens a c left later (first ++ second) result
listens_behind a b c left between later first second (Ok u) x y = hears_both a b c left between later first second x y
listens_behind a b c left between later first second (Err errors.ReadFault) x y = fails_behind a b c left between later first second read_errors.ReadFault x y
listens_behind a b c left between later first second (Err errors.TooLong) x y = fails_behind a b c left between later first second read_errors.TooLong x y
listens_behind a b c left between later first second (Err errors.NoMemory) x y = fails_behind a b c left between later first second read_errors.NoMemory x y
listens_behind a b c left between later first second (Err errors.WriteFault) x y = hears_both a b c left between later first second x y
listens_behind a b c left between later first second (Err errors.Ended) x y = (hears_both a b c left between later first second x y.0, y.1, y.2)
listens_behind a b c left between later first second (Err errors.BadLine) x y = hears_both a b c left between later first second x y

-- no memory is left behind lines
pub no_memory_behind : (a b : Held) (left later : Option (List ℕ)) (lines : List Line) → Hears a b left later lines → HearsAndFails a b left later lines read_errors.NoMemory
no_memory_behind a b left later lines x = record { between = b; rest = later; first = x; fails = ([], consumed_none later) }

pub counted_both : {A : Type 0} (count counted last : ℕ) (first second : List A) → counted ≡ count + length first → last ≡ counted + length second → last ≡ count + length (first ++ second)
counted_both count counted last first second a b = omega (arith, a, b, length-append first second)
