mod Promises
