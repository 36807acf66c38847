-- what only the contracts of private functions cite
pub mod HomeCounting
pub mod LineCounting
