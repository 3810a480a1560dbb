use Rattle.cc_core.proofs.Shifting.{shift_type, shift_term}
use Rattle.cc_core.proofs.ReadingAndWriting.{opened_type-read, opened_term-read, read_type-still, read_term-still, read_type-written, read_term-written, written_type-read, written_term-read}
use Rattle.cc_core.proofs.term_laws.reading_and_writing.Goals as goal

pub returns : goal.returns
returns c =
    record {
      shifted_types = shift_type;
      shifted_terms = shift_term;
      opened_types = opened_type-read;
      opened_terms = opened_term-read;
      still_types = λ n x m. read_type-still n 0 x m;
      still_terms = λ n x m. read_term-still n 0 x m;
      written_types = λ r n x m. read_type-written r n 0 x m;
      written_terms = λ r n x m. read_term-written r n 0 x m;
      read_types = λ r n x m. written_type-read r n 0 x m;
      read_terms = λ r n x m. written_term-read r n 0 x m;
    }
