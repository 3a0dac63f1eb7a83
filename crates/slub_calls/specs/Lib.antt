pub mod Calls
pub mod Laws
pub mod NumberHasher
pub mod Share
pub mod Changes
pub mod Events
pub mod Replies
pub mod ChangeLaws
