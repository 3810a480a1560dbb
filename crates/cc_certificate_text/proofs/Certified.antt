-- Bytes are one certificate, or have one bad line.
use Rattle.std.proofs.Common.{◌≡◌, ℕ, zero, suc, ◌+◌, ◌<◌, ◌≤◌, Bool, true, false, List, [], ◌∷◌, ◌++◌, length, refl, sym, ap, subst, ◌∙◌, arith, append_assoc, ◌⊎◌, inl, inr, ⊎_elim}
use Rattle.std.proofs.lemmas.Bool.{cases_lt}
use Rattle.std.proofs.lemmas.List.{length-append, append-nil}
use Rattle.cc_certificate_text.specs.Certificates.{Line, Stage, Start, Binding, Proving, names_at, behind_line, line_text, Fits, AllFit, behind_lines, lines_text, IsWhole, IsCertificate, Stops, IsBadLine}
use Rattle.cc_certificate_text.specs.Reading.{Found, Got, Wrong, ◌>>=◌, exact_at}
use Rattle.cc_certificate_text.specs.LineReading.{line_at, next_line}
use Rattle.cc_certificate_text.proofs.Readers.{got_from_bind, got_parts, exact_at_gives, exact_at-text}
use Rattle.cc_certificate_text.proofs.LinesRead.{StageOk, ok_behind, line_at_gives, line_at-text}

pub next_line_gives : (stage : Stage) (bytes : List ℕ) (line : Line) (rest : List ℕ) → StageOk stage → next_line stage bytes ≡ Got line rest
    → Fits stage line × (bytes ≡ line_text stage line ++ 10 ∷ rest)
unfolding next_line
next_line_gives stage bytes line rest ok h =
    let first = got_from_bind (line_at stage bytes) (λ line r. exact_at (10 ∷ []) r >>= λ feed behind. Got line behind) line rest h in
    let feed = got_from_bind (exact_at (10 ∷ []) first.1) (λ feed behind. Got first.0 behind) line rest first.3 in
    let same = got_parts first.0 line feed.1 rest feed.3 in
    let given = line_at_gives stage bytes first.0 first.1 ok first.2 in
    subst (λ l. Fits stage l × (bytes ≡ line_text stage l ++ 10 ∷ rest)) same.0
    (given.0, given.1 ∙ ap (λ z. line_text stage first.0 ++ z) (exact_at_gives (10 ∷ []) first.1 feed.1 feed.0 feed.2 ∙ ap (λ z. 10 ∷ z) same.1))

pub next_line-text : (stage : Stage) (line : Line) (rest : List ℕ) → StageOk stage → Fits stage line
    → next_line stage (line_text stage line ++ 10 ∷ rest) ≡ Got line rest
unfolding next_line
next_line-text stage line rest ok fits = rw (line_at-text stage line rest ok fits, exact_at-text (10 ∷ []) rest) refl

wrong_not_got : {A : Type 0} (f : Found A) (x : A) (r : List ℕ) → f ≡ Wrong → f ≡ Got x r → ⊥
wrong_not_got Wrong x r e h = cc
wrong_not_got (Got y s) x r e h = cc

-- no line that fits begins bytes in which none is read
pub stops_there : (stage : Stage) (bytes : List ℕ) → StageOk stage → next_line stage bytes ≡ Wrong → (bytes ≡ [] → ⊥) → Stops stage bytes
stops_there stage [] ok wrong some = absurd (some refl)
stops_there stage (b ∷ bs) ok wrong some =
    λ line behind fits e. wrong_not_got (next_line stage (b ∷ bs)) line behind wrong
    (subst (λ z. next_line stage z ≡ Got line behind) (sym e) (next_line-text stage line behind ok fits))

line_same : (stage : Stage) (a b : Line) (r s : List ℕ) → StageOk stage → Fits stage a → Fits stage b
    → line_text stage a ++ 10 ∷ r ≡ line_text stage b ++ 10 ∷ s → (a ≡ b) × (r ≡ s)
line_same stage a b r s ok p q e =
    got_parts a b r s (sym (next_line-text stage a r ok p) ∙ (ap (next_line stage) e ∙ next_line-text stage b s ok q))

no_line : (text rest : List ℕ) → [] ≡ text ++ 10 ∷ rest → ⊥
no_line [] rest e = cc
no_line (b ∷ bs) rest e = cc

stops_line : (stage : Stage) (bytes : List ℕ) (line : Line) (behind : List ℕ) → Stops stage bytes → Fits stage line
    → bytes ≡ line_text stage line ++ 10 ∷ behind → ⊥
stops_line stage [] line behind stops fits e = no_line (line_text stage line) behind e
stops_line stage (b ∷ bs) line behind stops fits e = stops line behind fits e

stops_whole : (stage : Stage) (bytes : List ℕ) → Stops stage bytes → IsWhole stage → bytes ≡ [] → ⊥
stops_whole stage [] stops whole e = stops whole
stops_whole stage (b ∷ bs) stops whole e = cc

lines_same : (stage : Stage) (ls bs : List Line) → StageOk stage → AllFit stage ls → AllFit stage bs
    → lines_text stage ls ≡ lines_text stage bs → ls ≡ bs
lines_same stage [] [] ok p q e = refl
lines_same stage [] (b ∷ bs) ok p q e = absurd (no_line (line_text stage b) (lines_text (behind_line stage b) bs) e)
lines_same stage (a ∷ ls) [] ok p q e = absurd (no_line (line_text stage a) (lines_text (behind_line stage a) ls) (sym e))
lines_same stage (a ∷ ls) (b ∷ bs) ok p q e =
    let first = line_same stage a b (lines_text (behind_line stage a) ls) (lines_text (behind_line stage b) bs) ok p.0 q.0 e in
    let back : AllFit (behind_line stage a) bs = subst (λ l. AllFit (behind_line stage l) bs) (sym first.0) q.1 in
    let text : lines_text (behind_line stage a) ls ≡ lines_text (behind_line stage a) bs =
    first.1 ∙ ap (λ l. lines_text (behind_line stage l) bs) (sym first.0) in
    λ i. first.0 i ∷ lines_same (behind_line stage a) ls bs (ok_behind stage a ok p.0) p.1 back text i

-- lines that stop somewhere are no whole certificate
lines_apart : (stage : Stage) (ls bs : List Line) (rest : List ℕ) → StageOk stage → AllFit stage ls → AllFit stage bs
    → Stops (behind_lines stage ls) rest → IsWhole (behind_lines stage bs)
    → lines_text stage ls ++ rest ≡ lines_text stage bs → ⊥
lines_apart stage [] [] rest ok p q stops whole e = stops_whole stage rest stops whole e
lines_apart stage [] (b ∷ bs) rest ok p q stops whole e = stops_line stage rest b (lines_text (behind_line stage b) bs) stops q.0 e
lines_apart stage (a ∷ ls) [] rest ok p q stops whole e =
    no_line (line_text stage a) (lines_text (behind_line stage a) ls ++ rest)
    (sym e ∙ append_assoc (line_text stage a) (10 ∷ lines_text (behind_line stage a) ls) rest)
lines_apart stage (a ∷ ls) (b ∷ bs) rest ok p q stops whole e =
    let first = line_same stage a b (lines_text (behind_line stage a) ls ++ rest) (lines_text (behind_line stage b) bs) ok p.0 q.0
    (sym (append_assoc (line_text stage a) (10 ∷ lines_text (behind_line stage a) ls) rest) ∙ e) in
    lines_apart (behind_line stage a) ls bs rest (ok_behind stage a ok p.0) p.1
    (subst (λ l. AllFit (behind_line stage l) bs) (sym first.0) q.1) stops
    (subst (λ l. IsWhole (behind_lines (behind_line stage l) bs)) (sym first.0) whole)
    (first.1 ∙ ap (λ l. lines_text (behind_line stage l) bs) (sym first.0))

lines_stop_once : (stage : Stage) (ls bs : List Line) (rest behind : List ℕ) → StageOk stage → AllFit stage ls → AllFit stage bs
    → Stops (behind_lines stage ls) rest → Stops (behind_lines stage bs) behind
    → lines_text stage ls ++ rest ≡ lines_text stage bs ++ behind → length ls ≡ length bs
lines_stop_once stage [] [] rest behind ok p q stops stops' e = refl
lines_stop_once stage [] (b ∷ bs) rest behind ok p q stops stops' e =
    absurd (stops_line stage rest b (lines_text (behind_line stage b) bs ++ behind) stops q.0
    (e ∙ append_assoc (line_text stage b) (10 ∷ lines_text (behind_line stage b) bs) behind))
lines_stop_once stage (a ∷ ls) [] rest behind ok p q stops stops' e =
    absurd (stops_line stage behind a (lines_text (behind_line stage a) ls ++ rest) stops' p.0
    (sym e ∙ append_assoc (line_text stage a) (10 ∷ lines_text (behind_line stage a) ls) rest))
lines_stop_once stage (a ∷ ls) (b ∷ bs) rest behind ok p q stops stops' e =
    let first = line_same stage a b (lines_text (behind_line stage a) ls ++ rest) (lines_text (behind_line stage b) bs ++ behind) ok p.0 q.0
    (sym (append_assoc (line_text stage a) (10 ∷ lines_text (behind_line stage a) ls) rest) ∙ (e
    ∙ append_assoc (line_text stage b) (10 ∷ lines_text (behind_line stage b) bs) behind)) in
    ap suc (lines_stop_once (behind_line stage a) ls bs rest behind (ok_behind stage a ok p.0) p.1
    (subst (λ l. AllFit (behind_line stage l) bs) (sym first.0) q.1) stops
    (subst (λ l. Stops (behind_lines (behind_line stage l) bs) behind) (sym first.0) stops')
    (first.1 ∙ ap (λ l. lines_text (behind_line stage l) bs ++ behind) (sym first.0)))

pub one_certificate : (bytes : List ℕ) (a b : List Line) → IsCertificate bytes a → IsCertificate bytes b → a ≡ b
one_certificate bytes a b p q = lines_same Start a b tt p.fit q.fit (sym p.written ∙ q.written)

pub never_both : (bytes : List ℕ) (lines : List Line) (number : ℕ) → IsCertificate bytes lines → IsBadLine bytes number → ⊥
never_both bytes lines number p q =
    lines_apart Start q.lines lines q.rest tt q.fit p.fit q.stops p.whole (sym q.written ∙ p.written)

pub one_bad_line : (bytes : List ℕ) (m n : ℕ) → IsBadLine bytes m → IsBadLine bytes n → m ≡ n
one_bad_line bytes m n p q =
    p.place ∙ (ap suc (lines_stop_once Start p.lines q.lines p.rest q.rest tt p.fit q.fit p.stops q.stops (sym p.written ∙ q.written))
    ∙ sym q.place)

-- HOW FAR LINES HAVE COME

-- the lines lead from one stage to another, and the bytes are their text and the rest
pub record Come (start : Stage) (bytes : List ℕ) (lines : List Line) (stage : Stage) (rest : List ℕ) : Type 0 where
  pub fit : AllFit start lines
  pub ends : behind_lines start lines ≡ stage
  pub written : bytes ≡ lines_text start lines ++ rest

fit_snoc : (stage : Stage) (lines : List Line) (line : Line) → AllFit stage lines → Fits (behind_lines stage lines) line
    → AllFit stage (lines ++ line ∷ [])
fit_snoc stage [] line fit fits = (fits, tt)
fit_snoc stage (l ∷ lines) line fit fits = (fit.0, fit_snoc (behind_line stage l) lines line fit.1 fits)

ends_snoc : (stage : Stage) (lines : List Line) (line : Line)
    → behind_lines stage (lines ++ line ∷ []) ≡ behind_line (behind_lines stage lines) line
ends_snoc stage [] line = refl
ends_snoc stage (l ∷ lines) line = ends_snoc (behind_line stage l) lines line

text_snoc : (stage : Stage) (lines : List Line) (line : Line) (rest : List ℕ)
    → lines_text stage (lines ++ line ∷ []) ++ rest
    ≡ lines_text stage lines ++ (line_text (behind_lines stage lines) line ++ 10 ∷ rest)
text_snoc stage [] line rest = append_assoc (line_text stage line) (10 ∷ []) rest
text_snoc stage (l ∷ lines) line rest =
    append_assoc (line_text stage l) (10 ∷ lines_text (behind_line stage l) (lines ++ line ∷ [])) rest
    ∙ (ap (λ z. line_text stage l ++ 10 ∷ z) (text_snoc (behind_line stage l) lines line rest)
    ∙ sym (append_assoc (line_text stage l) (10 ∷ lines_text (behind_line stage l) lines)
    (line_text (behind_lines (behind_line stage l) lines) line ++ 10 ∷ rest)))

pub come-nowhere : (stage : Stage) (bytes : List ℕ) → Come stage bytes [] stage bytes
come-nowhere stage bytes = record { fit = tt; ends = refl; written = refl }

-- one line more
pub come-further : (start : Stage) (bytes : List ℕ) (lines : List Line) (stage : Stage) (rest : List ℕ) (line : Line) (behind : List ℕ)
    → Come start bytes lines stage rest → Fits stage line → rest ≡ line_text stage line ++ 10 ∷ behind
    → Come start bytes (lines ++ line ∷ []) (behind_line stage line) behind
come-further start bytes lines stage rest line behind come fits e =
    record {
      fit = fit_snoc start lines line come.fit (subst (λ s. Fits s line) (sym come.ends) fits);
      ends = ends_snoc start lines line ∙ ap (λ s. behind_line s line) come.ends;
      written = come.written ∙ (ap (λ z. lines_text start lines ++ z) (e ∙ ap (λ s. line_text s line ++ 10 ∷ behind) (sym come.ends))
          ∙ sym (text_snoc start lines line behind));
    }

-- what is read is one line more
pub come-read : (start : Stage) (bytes : List ℕ) (lines : List Line) (stage : Stage) (rest : List ℕ) (line : Line) (behind : List ℕ)
    → Come start bytes lines stage rest → StageOk stage → next_line stage rest ≡ Got line behind
    → Come start bytes (lines ++ line ∷ []) (behind_line stage line) behind × StageOk (behind_line stage line)
come-read start bytes lines stage rest line behind come ok h =
    let given = next_line_gives stage rest line behind ok h in
    (come-further start bytes lines stage rest line behind come given.0 given.1, ok_behind stage line ok given.0)

-- where no line is read the next one is bad
pub bad-there : (bytes : List ℕ) (lines : List Line) (stage : Stage) (rest : List ℕ) (number : ℕ) → Come Start bytes lines stage rest
    → StageOk stage → next_line stage rest ≡ Wrong → (rest ≡ [] → ⊥) → number ≡ suc (length lines) → IsBadLine bytes number
bad-there bytes lines stage rest number come ok wrong some place =
    record {
      lines = lines;
      fit = come.fit;
      rest = rest;
      written = come.written;
      stops = subst (λ s. Stops s rest) (sym come.ends) (stops_there stage rest ok wrong some);
      place = place;
    }

-- where nothing is left and something is missing too
pub bad-end : (bytes : List ℕ) (lines : List Line) (stage : Stage) (rest : List ℕ) (number : ℕ) → Come Start bytes lines stage rest
    → (IsWhole stage → ⊥) → rest ≡ [] → number ≡ suc (length lines) → IsBadLine bytes number
bad-end bytes lines stage rest number come missing nothing place =
    record {
      lines = lines;
      fit = come.fit;
      rest = [];
      written = come.written ∙ ap (λ z. lines_text Start lines ++ z) nothing;
      stops = subst (λ s. IsWhole s → ⊥) (sym come.ends) missing;
      place = place;
    }

pub whole-there : (bytes : List ℕ) (lines : List Line) (stage : Stage) (rest : List ℕ) → Come Start bytes lines stage rest
    → IsWhole stage → rest ≡ [] → IsCertificate bytes lines
whole-there bytes lines stage rest come whole nothing =
    record {
      fit = come.fit;
      whole = subst IsWhole (sym come.ends) whole;
      written = come.written ∙ (ap (λ z. lines_text Start lines ++ z) nothing ∙ append-nil (lines_text Start lines));
    }

-- ONE OF THE TWO

abbrev pub IsCertificateOrBad : List ℕ → Type 0
IsCertificateOrBad bytes = ((lines : List Line) × IsCertificate bytes lines) ⊎ ((number : ℕ) × IsBadLine bytes number)

one_or_not : (n : ℕ) → (n ≡ 1) ⊎ (n ≡ 1 → ⊥)
one_or_not n = ⊎_elim (λ low. inr (λ e. omega (arith, low, e))) (one_or_more n) (cases_lt n 1)
  where
    one_or_more : (n : ℕ) → 1 ≤ n → (n ≡ 1) ⊎ (n ≡ 1 → ⊥)
    one_or_more n some = ⊎_elim (λ low. inl (omega (arith, low, some))) (λ high. inr (λ e. omega (arith, high, e))) (cases_lt n 2)

whole_or_not : (stage : Stage) → IsWhole stage ⊎ (IsWhole stage → ⊥)
whole_or_not Start = inr (λ h. h)
whole_or_not (Binding names context) = inr (λ h. h)
whole_or_not (Proving names count unused) = one_or_not (length unused)

shorter : (text behind rest : List ℕ) (room : ℕ) → rest ≡ text ++ 10 ∷ behind → length rest ≤ suc room → length behind ≤ room
shorter text behind rest room e low =
    let both : length rest ≡ length text + suc (length behind) = ap length e ∙ length-append text (10 ∷ behind) in
    omega (arith, both, low)

-- where nothing is left
at_end : (bytes : List ℕ) (lines : List Line) (stage : Stage) → Come Start bytes lines stage [] → IsCertificateOrBad bytes
at_end bytes lines stage come =
    ⊎_elim (λ whole. inl (lines, whole-there bytes lines stage [] come whole refl))
    (λ missing. inr (suc (length lines), bad-end bytes lines stage [] (suc (length lines)) come missing refl refl))
    (whole_or_not stage)

-- where something is left: no line is read, or it goes on behind the one that is
at_line : (bytes : List ℕ) (lines : List Line) (stage : Stage) (rest : List ℕ) → Come Start bytes lines stage rest → StageOk stage
    → (rest ≡ [] → ⊥) → ((line : Line) (behind : List ℕ) → next_line stage rest ≡ Got line behind → IsCertificateOrBad bytes)
    → (found : Found Line) → next_line stage rest ≡ found → IsCertificateOrBad bytes
at_line bytes lines stage rest come ok some further Wrong e =
    inr (suc (length lines), bad-there bytes lines stage rest (suc (length lines)) come ok e some refl)
at_line bytes lines stage rest come ok some further (Got line behind) e = further line behind e

from_there : (room : ℕ) (bytes : List ℕ) (lines : List Line) (stage : Stage) (rest : List ℕ) → length rest ≤ room
    → Come Start bytes lines stage rest → StageOk stage → IsCertificateOrBad bytes
from_there zero bytes lines stage [] low come ok = at_end bytes lines stage come
from_there zero bytes lines stage (b ∷ bs) low come ok = absurd (omega (arith, low))
from_there (suc room) bytes lines stage [] low come ok = at_end bytes lines stage come
from_there (suc room) bytes lines stage (b ∷ bs) low come ok =
    at_line bytes lines stage (b ∷ bs) come ok (λ e. cc)
    (λ line behind h.
    let given = next_line_gives stage (b ∷ bs) line behind ok h in
    let more = come-read Start bytes lines stage (b ∷ bs) line behind come ok h in
    from_there room bytes (lines ++ line ∷ []) (behind_line stage line) behind (shorter (line_text stage line) behind (b ∷ bs) room given.1 low)
    more.0 more.1)
    (next_line stage (b ∷ bs)) refl

pub certificate_or_bad_line : (bytes : List ℕ) → IsCertificateOrBad bytes
certificate_or_bad_line bytes = from_there (length bytes) bytes [] Start bytes (omega arith) (come-nowhere Start bytes) tt
