pub mod Entered
pub mod FrozenWave
pub mod Laws
pub mod StaysBlack
