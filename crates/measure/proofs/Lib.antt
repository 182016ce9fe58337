pub mod Bits
pub mod BundleBits
