-- How what is found of bytes as a certificate is told.
use Rattle.std.specs.Prelude.{◌≡◌, ℕ, Bool, List, []}
use Rattle.cc_certificate_judging.specs.Answers.{Found, IsFound}
use Rattle.cc_replies.specs.ReplyTexts.{Verified, reply_text, is_refusal}

-- The text is that of the reply with what is found of the bytes, and it is told whether that is a refusal.
pub record TellsFound (bytes text : List ℕ) (refused : Bool) : Type 0 where
  pub found : Found
  pub is_found : IsFound bytes found
  pub says : text ≡ reply_text [] (Verified found)
  pub tells : refused ≡ is_refusal (Verified found)
