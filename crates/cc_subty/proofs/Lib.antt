pub mod BoundsFollowed
