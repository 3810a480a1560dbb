use Rattle.cc_capture.proofs.Images.{image-image, image-identity, image-congruent, image-union, flat_image-flat_image}
use Rattle.cc_capture.proofs.Images.{flat_image-congruent, flat_image-union, flat_image-single}
use Rattle.cc_capture.proofs.set_laws.images.Goals as goal

pub returns : goal.returns
returns c =
    record {
      compose = image-image;
      identity = image-identity;
      agree = image-congruent;
      of_union = image-union;
      flat_compose = flat_image-flat_image;
      flat_agree = flat_image-congruent;
      flat_of_union = flat_image-union;
      flat_of_singles = flat_image-single;
    }
