pub mod TestReply
