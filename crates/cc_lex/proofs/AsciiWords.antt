-- What an ASCII character is in a word.
use Rattle.std.proofs.Common.{◌≡◌, ℕ, ◌<◌, ◌≤◌, Bool, true, ◌||◌, ◌==◌, List, length, get_or, sym, ◌∙◌, arith}
use Rattle.std.specs.Str.{IsUtf8}
use Rattle.std.proofs.lemmas.Str.{lead_after_ascii}
use Rattle.std.specs.Char.{is_ascii, is_ascii_alphabetic, is_ascii_alphanumeric}
use Rattle.std.proofs.lemmas.Bool.Decides.{nat_tests}
use Rattle.unicode_ident.specs.Ident.{is_xid_start, is_xid_continue}
use Rattle.unicode_ident.proofs.IdentLemmas.{is_xid_start-ascii, is_xid_continue-ascii}

ascii-below : (c : ℕ) → is_ascii c ≡ true → c < 128
ascii-below c h = grind (arith, nat_tests)

pub ascii_continues : (c : ℕ) (ascii result : Bool) → ascii ≡ is_ascii c → ascii ≡ true → result ≡ (is_ascii_alphanumeric c || (c == 95)) → result ≡ is_xid_continue c
ascii_continues c ascii result e h k = k ∙ sym (is_xid_continue-ascii c (ascii-below c (sym e ∙ h)))

pub ascii_starts : (c : ℕ) (ascii result : Bool) → ascii ≡ is_ascii c → ascii ≡ true → result ≡ is_ascii_alphabetic c → result ≡ is_xid_start c
ascii_starts c ascii result e h k = k ∙ sym (is_xid_start-ascii c (ascii-below c (sym e ∙ h)))

-- a character begins behind an ASCII one
pub start_behind : (bs : List ℕ) (ascii : Bool) → IsUtf8 bs → ascii ≡ is_ascii (get_or bs 0 0) → ascii ≡ true → 1 < length bs → 128 ≤ get_or bs 1 0 → 192 ≤ get_or bs 1 0
start_behind bs ascii u h k more lead =
    lead_after_ascii bs 0 u (ascii-below (get_or bs 0 0) (sym h ∙ k)) more lead
