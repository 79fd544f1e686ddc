pub mod Found
pub mod Noncharacters
