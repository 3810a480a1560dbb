use Rattle.cc_core.proofs.ShapeSizes.{size_with-counted, type_size-closed, type_size-opened}
use Rattle.cc_core.proofs.term_laws.sizes.Goals as goal

pub returns : goal.returns
returns c =
    record {
      with_shape = size_with-counted;
      opened = λ n t m. type_size-opened n 0 t m;
      closed = λ n t m. type_size-closed n 0 t m;
    }
