pub mod Blocks
pub mod Hashers
pub mod Hmac
pub mod Keys
pub mod Sha256
pub mod Vectors
pub mod Words
