pub mod CountLaws
pub mod ReleaseLaws
pub mod Acks
pub mod Refused
pub mod Forwarded
pub mod Waits
pub mod LeftAlone
pub mod GatewayWords
