pub mod SceneLabels
pub mod ToldCauses
